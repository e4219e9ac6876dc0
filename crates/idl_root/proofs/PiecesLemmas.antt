-- Pieces of a root's units, and more of them behind these: what is kept of all, and what they ask.
use Rattle.std.proofs.Common.{◌≡◌, ◌≢◌, ◌∙◌, ◌+◌, arith, ℕ, false, List, [], ◌∷◌, ◌++◌, append_assoc, length, map, refl, sym, ap, if◌then◌else◌}
use Rattle.std.proofs.lemmas.List.{length-append, length-map, map-append}
use Rattle.std.proofs.lemmas.List.Sums.{sum_by-append, sum_by-cons}
use Rattle.idl_env.specs.Facts.{UnitFacts}
use Rattle.idl_kept.proofs.Begins.{count-units}
use Rattle.idl_kept.specs.Texts.{DeclarationResult, Texts, begins_in}
use Rattle.idl_root.proofs.StoredLemmas.{grown-grown, grown-none}
use Rattle.idl_root.specs.Passed.{with_kept}
use Rattle.idl_root.specs.Results.{HasDraft, marks_in, part_mark}
use Rattle.idl_root_blocks.proofs.Meets.{met-block, met-loose}
use Rattle.idl_root_blocks.proofs.Splits.{declarations-split, facts-first, facts-split}
use Rattle.idl_root_blocks.proofs.Wholes.{blocks-block, blocks-loose, blocks-none, pieces-block, pieces-loose, pieces-none}
use Rattle.idl_root_blocks.specs.Blocks.{Block, Loose, Nothing, Pieces, text_in}
use Rattle.idl_root_blocks.specs.Finding.{one_text, texts_in}
use Rattle.idl_root_blocks.specs.Met.{Known, MetBlock, compared, is_known, met_over, outermost_keys, shared_by, with_block, with_part, with_pieces}
use Rattle.idl_root_blocks.specs.Places.{BlockPlace, DeclarationPlace, block_at, block_result, blocks_over, declaration_result, declarations_over, facts_behind, facts_over, with_entering}
use Rattle.idl_root_blocks.specs.declared.text.BlockPart.{BlockPart as Part}
use Rattle.idl_root_blocks.specs.declared.text.BlockPart.TheVariants.{Enters, Leaves}
use Rattle.idl_store.specs.Stored.{Stored, grown, last_draft, last_of, with_results}

-- pieces, and others behind them
abbrev pub joined : Pieces → Pieces → Pieces
joined Nothing others = others
joined (Loose part pieces) others = Loose part (joined pieces others)
joined (Block inside pieces) others = Block inside (joined pieces others)

pub text-joined : (pieces others : Pieces) → text_in (joined pieces others) ≡ text_in pieces ++ text_in others
text-joined Nothing others = refl
text-joined (Loose part pieces) others = ap (λ (t : List Part). part ∷ t) (text-joined pieces others)
text-joined (Block inside pieces) others =
    ap (λ (t : List Part). Enters false ∷ (text_in inside ++ Leaves false ∷ t)) (text-joined pieces others)
    ∙ ap (λ (t : List Part). Enters false ∷ t) (sym (append_assoc (text_in inside) (Leaves false ∷ text_in pieces) (text_in others)))

-- the facts behind a block, and behind what follows
pub facts-inside : (inside pieces : Pieces) (facts : List UnitFacts) → facts_over facts (text_in (Block inside pieces)) ≡ facts_over (facts_behind facts inside) (text_in pieces)
facts-inside inside pieces facts =
    facts-first (Enters false) (text_in inside ++ Leaves false ∷ text_in pieces) facts
    ∙ facts-split (text_in inside) (Leaves false ∷ text_in pieces) (with_entering facts)
    ∙ facts-first (Leaves false) (text_in pieces) (facts_over (with_entering facts) (text_in inside))

pub facts-joined : (pieces others : Pieces) (facts : List UnitFacts) → facts_over facts (text_in (joined pieces others)) ≡ facts_over (facts_over facts (text_in pieces)) (text_in others)
facts-joined pieces others facts = ap (facts_over facts) (text-joined pieces others) ∙ facts-split (text_in pieces) (text_in others) facts

pub declarations-joined : (pieces others : Pieces) (facts : List UnitFacts)
    → declarations_over facts (text_in (joined pieces others)) ≡ declarations_over facts (text_in pieces) ++ declarations_over (facts_over facts (text_in pieces)) (text_in others)
declarations-joined pieces others facts = ap (declarations_over facts) (text-joined pieces others) ∙ declarations-split (text_in pieces) (text_in others) facts

pub blocks-joined : (pieces others : Pieces) (facts : List UnitFacts)
    → blocks_over facts (joined pieces others) ≡ blocks_over facts pieces ++ blocks_over (facts_over facts (text_in pieces)) others
blocks-joined Nothing others facts = ap (λ (bs : List BlockPlace). bs ++ blocks_over facts others) (sym (blocks-none facts))
blocks-joined (Loose part pieces) others facts =
    let over : List UnitFacts = facts_over facts (part ∷ []) in
    blocks-loose part (joined pieces others) facts
    ∙ blocks-joined pieces others over
    ∙ (λ i. sym (blocks-loose part pieces facts) i ++ blocks_over (sym (facts-first part (text_in pieces) facts) i) others)
blocks-joined (Block inside pieces) others facts =
    let over : List UnitFacts = facts_behind facts inside in
    let own : List BlockPlace = blocks_over (with_entering facts) inside in
    let here : BlockPlace = block_at facts inside in
    blocks-block inside (joined pieces others) facts
    ∙ ap (λ (bs : List BlockPlace). own ++ here ∷ bs) (blocks-joined pieces others over)
    ∙ sym (append_assoc own (here ∷ blocks_over over pieces) (blocks_over (facts_over over (text_in pieces)) others))
    ∙ (λ i. sym (blocks-block inside pieces facts) i ++ blocks_over (sym (facts-inside inside pieces facts) i) others)

texts-inside : (inside : Pieces) (text : List Part) → texts_in (Enters false ∷ (text_in inside ++ Leaves false ∷ text)) ≡ texts_in (text_in inside) + texts_in text
texts-inside inside text =
    let first = sum_by-cons one_text (Enters false) (text_in inside ++ Leaves false ∷ text) in
    let both = sum_by-append one_text (text_in inside) (Leaves false ∷ text) in
    let last = sum_by-cons one_text (Leaves false) text in
    omega (arith, first, both, last)

pub begins-joined : (pieces others : Pieces) (first : ℕ) → begins_in first (joined pieces others) ≡ begins_in first pieces ++ begins_in (first + texts_in (text_in pieces)) others
begins-joined Nothing others first =
    let same : first ≡ first + 0 = omega arith in
    ap (λ n. begins_in n others) same
begins-joined (Loose part pieces) others first =
    let more = sum_by-cons one_text part (text_in pieces) in
    let same : (first + one_text part) + texts_in (text_in pieces) ≡ first + texts_in (part ∷ text_in pieces) = omega (arith, more) in
    begins-joined pieces others (first + one_text part)
    ∙ ap (λ n. begins_in (first + one_text part) pieces ++ begins_in n others) same
begins-joined (Block inside pieces) others first =
    let next : ℕ = first + texts_in (text_in inside) in
    let more = texts-inside inside (text_in pieces) in
    let same : next + texts_in (text_in pieces) ≡ first + texts_in (text_in (Block inside pieces)) = omega (arith, more) in
    ap (λ (ns : List ℕ). begins_in first inside ++ first ∷ ns) (begins-joined pieces others next)
    ∙ sym (append_assoc (begins_in first inside) (first ∷ begins_in next pieces) (begins_in (next + texts_in (text_in pieces)) others))
    ∙ ap (λ n. (begins_in first inside ++ first ∷ begins_in next pieces) ++ begins_in n others) same

pub keys-joined : (pieces others : Pieces) (facts : List UnitFacts)
    → outermost_keys facts (joined pieces others) ≡ outermost_keys facts pieces + outermost_keys (facts_over facts (text_in pieces)) others
keys-joined Nothing others facts = omega arith
keys-joined (Loose part pieces) others facts =
    let rest = keys-joined pieces others (facts_over facts (part ∷ [])) in
    let same = ap (λ (fs : List UnitFacts). outermost_keys fs others) (facts-first part (text_in pieces) facts) in
    omega (arith, rest, same)
keys-joined (Block inside pieces) others facts =
    let rest = keys-joined pieces others (facts_behind facts inside) in
    let same = ap (λ (fs : List UnitFacts). outermost_keys fs others) (facts-inside inside pieces facts) in
    omega (arith, rest, same)

pub marks-joined : (pieces others : Pieces) → marks_in (text_in (joined pieces others)) ≡ marks_in (text_in pieces) ++ marks_in (text_in others)
marks-joined pieces others = ap marks_in (text-joined pieces others) ∙ map-append part_mark (text_in pieces) (text_in others)

-- ---- what is compared

pub compared-none : (known : Known) (facts : List UnitFacts) → compared (met_over known facts Nothing) ≡ 0
unfolding met_over
compared-none known facts = refl

pub compared-joined : (known : Known) (pieces others : Pieces) (facts : List UnitFacts)
    → compared (met_over known facts (joined pieces others))
    ≡ compared (met_over known facts pieces) + compared (met_over (with_pieces known facts pieces) (facts_over facts (text_in pieces)) others)
compared-joined known Nothing others facts =
    let none = compared-none known facts in
    let same = ap (λ (k : Known). compared (met_over k facts others)) (pieces-none known facts) in
    omega (arith, none, same)
compared-joined known (Loose part pieces) others facts =
    let over : List UnitFacts = facts_over facts (part ∷ []) in
    let all = met-loose known facts part (joined pieces others) in
    let own = met-loose known facts part pieces in
    let rest = compared-joined (with_part known facts part) pieces others over in
    let same : compared (met_over (with_pieces (with_part known facts part) over pieces) (facts_over over (text_in pieces)) others)
    ≡ compared (met_over (with_pieces known facts (Loose part pieces)) (facts_over facts (part ∷ text_in pieces)) others) =
    λ i. compared (met_over (sym (pieces-loose known facts part pieces) i) (sym (facts-first part (text_in pieces) facts) i) others) in
    omega (arith, all, own, rest, same)
compared-joined known (Block inside pieces) others facts =
    let behind : List UnitFacts = facts_behind facts inside in
    let next : Known = with_block known facts inside in
    let here : ℕ = shared_by (MetBlock known.blocks (block_at facts inside)) in
    let nested : ℕ = if is_known known.blocks (block_at facts inside) then 0 else compared (met_over known (with_entering facts) inside) in
    let all : compared (met_over known facts (Block inside (joined pieces others))) ≡ here + (nested + compared (met_over next behind (joined pieces others))) = met-block known facts inside (joined pieces others) in
    let own : compared (met_over known facts (Block inside pieces)) ≡ here + (nested + compared (met_over next behind pieces)) = met-block known facts inside pieces in
    let rest = compared-joined next pieces others behind in
    let same : compared (met_over (with_pieces next behind pieces) (facts_over behind (text_in pieces)) others)
    ≡ compared (met_over (with_pieces known facts (Block inside pieces)) (facts_over facts (text_in (Block inside pieces))) others) =
    λ i. compared (met_over (sym (pieces-block known facts inside pieces) i) (sym (facts-inside inside pieces facts) i) others) in
    omega (arith, all, own, rest, same)

-- ---- the last draft

module _ {X : Type 0} where
  last-grown : (drafts : List (ℕ × List X)) (more : List X) → drafts ≢ [] → last_of (with_results drafts more) ≡ last_of drafts ++ more
  last-grown [] more has = absurd (has refl)
  last-grown (d ∷ []) more has = refl
  last-grown (d ∷ e ∷ []) more has = refl
  last-grown (d ∷ e ∷ f ∷ drafts) more has = last-grown (e ∷ f ∷ drafts) more (λ h. cc)

  pub draft-grown : (stored : Stored X) (more : List X) → HasDraft stored → last_draft (grown stored more) ≡ last_draft stored ++ more
  draft-grown stored more has = last-grown stored.drafts more has

-- ---- what is kept

pub kept-none : (kept : Texts) (facts : List UnitFacts) → with_kept kept facts Nothing ≡ kept
unfolding declarations_over blocks_over
kept-none kept facts = λ i. record {
  declarations = grown-none kept.declarations i;
  blocks = grown-none kept.blocks i;
  begins = grown-none kept.begins i;
}

-- where the units begin that come next
drafted-more : (kept : Texts) (facts : List UnitFacts) (pieces : Pieces) → HasDraft kept.declarations
    → length (last_draft (with_kept kept facts pieces).declarations) ≡ length (last_draft kept.declarations) + texts_in (text_in pieces)
drafted-more kept facts pieces has =
    let places : List DeclarationPlace = declarations_over facts (text_in pieces) in
    let own : List DeclarationResult = map declaration_result places in
    ap (λ (rs : List DeclarationResult). length rs) (draft-grown kept.declarations own has)
    ∙ length-append (last_draft kept.declarations) own
    ∙ ap (λ n. length (last_draft kept.declarations) + n) (length-map places declaration_result ∙ count-units facts (text_in pieces))

pub kept-joined : (kept : Texts) (facts : List UnitFacts) (pieces others : Pieces) → HasDraft kept.declarations
    → with_kept (with_kept kept facts pieces) (facts_over facts (text_in pieces)) others ≡ with_kept kept facts (joined pieces others)
kept-joined kept facts pieces others has =
    let over : List UnitFacts = facts_over facts (text_in pieces) in
    let first : ℕ = length (last_draft kept.declarations) in
    let units : List DeclarationPlace = declarations_over facts (text_in pieces) in
    let later : List DeclarationPlace = declarations_over over (text_in others) in
    let blocks : List BlockPlace = blocks_over facts pieces in
    let behind : List BlockPlace = blocks_over over others in
    λ i. record {
      declarations = (grown-grown kept.declarations (map declaration_result units) (map declaration_result later)
          ∙ ap (grown kept.declarations) (sym (map-append declaration_result units later) ∙ ap (map declaration_result) (sym (declarations-joined pieces others facts)))) i;
      blocks = (grown-grown kept.blocks (map block_result blocks) (map block_result behind)
          ∙ ap (grown kept.blocks) (sym (map-append block_result blocks behind) ∙ ap (map block_result) (sym (blocks-joined pieces others facts)))) i;
      begins = (ap (λ n. grown (grown kept.begins (begins_in first pieces)) (begins_in n others)) (drafted-more kept facts pieces has)
          ∙ grown-grown kept.begins (begins_in first pieces) (begins_in (first + texts_in (text_in pieces)) others)
          ∙ ap (grown kept.begins) (sym (begins-joined pieces others first))) i;
    }
