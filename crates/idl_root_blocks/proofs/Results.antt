-- What is kept of the units of a block, where it is alike.
use Rattle.std.proofs.Common.{◌≡◌, ◌∙◌, List, [], ◌∷◌, Option, append-nil, refl, ap}
use Rattle.std.specs.Prelude.{Contains}
use Rattle.std.proofs.lemmas.List.Elements.{All-contains, All-contains_itself, All-weaker}
use Rattle.idl_block.proofs.OuterLaws.{Contains-outer}
use Rattle.idl_block.specs.Blocks.{unit_places}
use Rattle.idl_block.specs.Questions.{AreKnown, outer_asked}
use Rattle.idl_env.specs.Facts.{UnitFacts, answers, boundary}
use Rattle.idl_env.specs.declared.additions.addition.Step.TheVariants.{Enters as EntersFile}
use Rattle.idl_env.specs.declared.answering.answer.Answer.{Answer}
use Rattle.idl_env.specs.declared.keys.key.Key.{Key}
use Rattle.idl_memo.proofs.QueryLaws.{asked-and_then}
use Rattle.idl_memo.specs.Query.{Agree, Done, asked}
use Rattle.idl_root_blocks.specs.Blocks.{parts_of}
use Rattle.idl_root_blocks.specs.Places.{DeclarationPlace, block_asks, block_query, declarations_over, facts_over, unit_ways}
use Rattle.idl_root_blocks.specs.declared.text.BlockPart.{BlockPart as Part}
use Rattle.idl_root_blocks.specs.declared.text.BlockPart.TheVariants.{Text, Enters, Leaves}

-- declarations stand where units of a block do
pub placed : (text : List Part) (facts : List UnitFacts) → declarations_over facts text ≡ unit_places unit_ways answers (parts_of text) facts
unfolding declarations_over
placed [] facts = refl
placed (Text unit ∷ text) facts = ap (λ (places : List DeclarationPlace). (unit, answers facts) ∷ places) (placed text (facts_over facts (Text unit ∷ [])))
placed (Enters inside ∷ text) facts = placed text (facts_over facts (Enters inside ∷ []))
placed (Leaves inside ∷ text) facts = placed text (facts_over facts (Leaves inside ∷ []))

-- banks that agree on what a block asks agree on its outer keys
pub outer-agree : (text : List Part) (bank other : Key → Option Answer) → AreKnown unit_ways (parts_of text) (boundary EntersFile ∷ []) bank
    → Agree (asked (block_query text) bank) bank other → Agree (outer_asked unit_ways (parts_of text) (boundary EntersFile ∷ []) bank) bank other
outer-agree text bank other known agree =
    let keys : List Key = asked (block_query text) bank in
    let outer : List Key = outer_asked unit_ways (parts_of text) (boundary EntersFile ∷ []) bank in
    All-weaker (Contains outer) (λ k. other k ≡ bank k)
    (λ k there. All-contains (λ k. other k ≡ bank k) keys k agree ((Contains-outer unit_ways bank (parts_of text) (boundary EntersFile ∷ []) known k).1 there))
    outer (All-contains_itself outer)

-- a block keeps what it asks
pub asks-block : (text : List Part) (bank : Key → Option Answer) → asked (block_asks text) bank ≡ asked (block_query text) bank
asks-block text bank = asked-and_then (block_query text) (λ end. Done tt) bank ∙ append-nil (asked (block_query text) bank)
