-- Pieces of a root's units that are passed, and more of them behind these.
use Rattle.std.proofs.Common.{◌≡◌, ◌≤◌, ◌∙◌, ◌+◌, arith, ℕ, List, [], ◌∷◌, ◌++◌, append-nil, append_assoc, map, refl, subst, sym, ap}
use Rattle.std.proofs.lemmas.List.{map-append}
use Rattle.idl_root_blocks.proofs.IdlCheckLaws.ToldLaws.{MoreTurns}
use Rattle.idl_env.specs.Facts.{UnitFacts}
use Rattle.idl_kept.specs.Texts.{DeclarationResult, Texts}
use Rattle.idl_memo.specs.Meter.{compared_after, most_compared}
use Rattle.idl_memo.specs.declared.meter.Meter.{Meter}
use Rattle.idl_root.proofs.KeptLemmas.{checks-more}
use Rattle.idl_root.proofs.OpenLemmas.{all-more, all-none}
use Rattle.idl_root.proofs.PiecesLemmas.{compared-joined, compared-none, declarations-joined, facts-joined, joined, kept-joined, kept-none, keys-joined, marks-joined, text-joined}
use Rattle.idl_root.proofs.SharedLemmas.{compared-more, compared-most}
use Rattle.idl_root.proofs.StoredLemmas.{grown-results, has-grown}
use Rattle.idl_root.specs.Compared.{AreOf}
use Rattle.idl_root.specs.Followed.{IsKeeping}
use Rattle.idl_root.specs.Passed.{AllGoOn, ArePassed, Compares, HasDrafts, keys_behind, with_kept}
use Rattle.idl_root.specs.Results.{IsDeclarationPass, marks_in}
use Rattle.idl_root.specs.declared.kept.keeping.Keeping.{Keeping}
use Rattle.idl_root_blocks.proofs.Fronts.{Enough, Walked}
use Rattle.idl_root_blocks.proofs.Wholes.{declarations-none}
use Rattle.idl_root_blocks.specs.Blocks.{Nothing, Pieces, text_in}
use Rattle.idl_root_blocks.specs.Met.{Known, compared, met_over, outermost_keys, with_pieces}
use Rattle.idl_root_blocks.specs.Places.{BlockPlace, DeclarationPlace, block_result, blocks_over, declaration_result, declarations_over, facts_over}
use Rattle.idl_root_blocks.specs.Asking.{OpenBlock}
use Rattle.idl_root_blocks.specs.declared.text.BlockPart.{BlockPart as Part}
use Rattle.idl_store.specs.Stored.{results_in}

-- ---- what is kept

-- there are drafts still
pub has-kept : (kept : Texts) (facts : List UnitFacts) (pieces : Pieces) → HasDrafts kept → HasDrafts (with_kept kept facts pieces)
has-kept kept facts pieces has = record {
  declarations = has-grown kept.declarations _ has.declarations;
  blocks = has-grown kept.blocks _ has.blocks;
  begins = has-grown kept.begins _ has.begins;
}

-- what is kept of known tasks, with those of pieces
pub of-kept : (known : Known) (kept : Texts) (facts : List UnitFacts) (pieces : Pieces) → HasDrafts kept → AreOf known kept → AreOf (with_pieces known facts pieces) (with_kept kept facts pieces)
of-kept known kept facts pieces has are =
    let units : List DeclarationPlace = declarations_over facts (text_in pieces) in
    let blocks : List BlockPlace = blocks_over facts pieces in
    record {
      declarations =
          grown-results kept.declarations (map declaration_result units) has.declarations
          ∙ ap (λ (rs : List DeclarationResult). rs ++ map declaration_result units) are.declarations
          ∙ sym (map-append declaration_result known.declarations units);
      blocks =
          grown-results kept.blocks (map block_result blocks) has.blocks
          ∙ (λ i. are.blocks i ++ map block_result blocks)
          ∙ sym (map-append block_result known.blocks blocks);
    }

-- ---- what is asked outside blocks

pub keys-none : (blocks : List OpenBlock) (keys : ℕ) → keys ≤ most_compared → keys ≡ keys_behind blocks keys 0
keys-none [] keys within = omega (arith, within)
keys-none (block ∷ blocks) keys within = refl

keys-most : (blocks : List OpenBlock) (keys more : ℕ) → keys ≤ most_compared → keys_behind blocks keys more ≤ most_compared
keys-most [] keys more within = compared-most keys more
keys-most (block ∷ blocks) keys more within = within

pub keys-more : (blocks others : List OpenBlock) (by : OpenBlock → OpenBlock) (keys more again : ℕ) → others ≡ map by blocks
    → keys_behind others (keys_behind blocks keys more) again ≡ keys_behind blocks keys (more + again)
keys-more blocks others by keys more again is = ap (λ (bs : List OpenBlock). keys_behind bs (keys_behind blocks keys more) again) is ∙ own blocks
  where
    own : (blocks : List OpenBlock) → keys_behind (map by blocks) (keys_behind blocks keys more) again ≡ keys_behind blocks keys (more + again)
    own [] = compared-more keys more again
    own (block ∷ blocks) = refl

-- ---- all of it

pub compares-none : (facts : List UnitFacts) (kept : Texts) (meter : Meter) → Compares facts Nothing kept meter meter
compares-none facts kept meter known are within =
    let none = compared-none known facts in
    let same : meter.compared ≡ compared_after meter.compared 0 = omega (arith, within) in
    same ∙ ap (compared_after meter.compared) (sym none)

pub compares-more : (facts : List UnitFacts) (pieces others : Pieces) (kept between : Texts) (old at new : Meter) → HasDrafts kept
    → between ≡ with_kept kept facts pieces
    → Compares facts pieces kept old at → Compares (facts_over facts (text_in pieces)) others between at new
    → Compares facts (joined pieces others) kept old new
compares-more facts pieces others kept between old at new has is first second known are within =
    let here : ℕ = compared (met_over known facts pieces) in
    let next : Known = with_pieces known facts pieces in
    let later : ℕ = compared (met_over next (facts_over facts (text_in pieces)) others) in
    let one : at.compared ≡ compared_after old.compared here = first known are within in
    let most = compared-most old.compared here in
    second next (subst (AreOf next) (sym is) (of-kept known kept facts pieces has are)) (omega (arith, one, most))
    ∙ ap (λ n. compared_after n later) one
    ∙ compared-more old.compared here later
    ∙ ap (compared_after old.compared) (sym (compared-joined known pieces others facts))

module _ (none : (old : List DeclarationResult) (count : ℕ) → IsDeclarationPass [] old old count count)
    (both : (first second : List DeclarationPlace) (old between new : List DeclarationResult) (before at after : ℕ) → IsDeclarationPass first old between before at
    → IsDeclarationPass second between new at after → IsDeclarationPass (first ++ second) old new before after)
  where
    pub passed-none : (facts : List UnitFacts) (kept : Texts) (keeping : Keeping) → IsKeeping kept.declarations.lists keeping facts
        → ArePassed facts Nothing kept keeping kept keeping
    passed-none facts kept keeping is = record {
      kept_is = sym (kept-none kept facts);
      marks = sym (append-nil keeping.marks.items);
      keeping_is = is;
      earlier = refl;
      counts =
          subst (λ (places : List DeclarationPlace). IsDeclarationPass places (results_in kept.declarations) (results_in kept.declarations) keeping.meter.checked keeping.meter.checked)
          (sym (declarations-none facts)) (none (results_in kept.declarations) keeping.meter.checked);
      others = refl;
      blocks = all-none facts keeping.blocks.blocks;
      keys = λ within. keys-none keeping.blocks.blocks keeping.keys within;
    }

    pub passed-more : Enough → Walked → MoreTurns → (facts : List UnitFacts) (pieces others : Pieces) (kept between new : Texts) (keeping at behind : Keeping) → HasDrafts kept
        → ArePassed facts pieces kept keeping between at → ArePassed (facts_over facts (text_in pieces)) others between at new behind
        → ArePassed facts (joined pieces others) kept keeping new behind
    passed-more enough walked more facts pieces others kept between new keeping at behind has first second =
        let over : List UnitFacts = facts_over facts (text_in pieces) in
        let lists : between.declarations.lists ≡ kept.declarations.lists = ap (λ (t : Texts). t.declarations.lists) first.kept_is in
        record {
          kept_is = second.kept_is ∙ ap (λ (t : Texts). with_kept t over others) first.kept_is ∙ kept-joined kept facts pieces others has.declarations;
          marks =
              second.marks
              ∙ (λ i. first.marks i ++ marks_in (text_in others))
              ∙ append_assoc keeping.marks.items (marks_in (text_in pieces)) (marks_in (text_in others))
              ∙ ap (λ ms. keeping.marks.items ++ ms) (sym (marks-joined pieces others));
          keeping_is =
              subst (IsKeeping kept.declarations.lists behind) (sym (facts-joined pieces others facts))
              (subst (λ ls. IsKeeping ls behind (facts_over over (text_in others))) lists second.keeping_is);
          earlier = second.earlier ∙ first.earlier;
          counts =
              subst (λ (places : List DeclarationPlace). IsDeclarationPass places (results_in kept.declarations) (results_in new.declarations) keeping.meter.checked behind.meter.checked)
              (sym (declarations-joined pieces others facts))
              (both (declarations_over facts (text_in pieces)) (declarations_over over (text_in others)) (results_in kept.declarations) (results_in between.declarations) (results_in new.declarations)
              keeping.meter.checked at.meter.checked behind.meter.checked first.counts second.counts);
          others = checks-more keeping.meter at.meter behind.meter first.others second.others;
          blocks =
              subst (λ (t : List Part). AllGoOn facts t keeping.blocks.blocks behind.blocks.blocks) (sym (text-joined pieces others))
              (all-more enough walked more facts (text_in pieces) (text_in others) keeping.blocks.blocks at.blocks.blocks behind.blocks.blocks first.blocks second.blocks);
          keys = λ within.
              second.keys (subst (λ n. n ≤ most_compared) (sym (first.keys within)) (keys-most keeping.blocks.blocks keeping.keys (outermost_keys facts pieces) within))
              ∙ ap (λ n. keys_behind at.blocks.blocks n (outermost_keys over others)) (first.keys within)
              ∙ keys-more keeping.blocks.blocks at.blocks.blocks first.blocks.by keeping.keys (outermost_keys facts pieces) (outermost_keys over others) first.blocks.all
              ∙ ap (keys_behind keeping.blocks.blocks keeping.keys) (sym (keys-joined pieces others facts));
        }
