-- A unit, or a block, stands in front of units that are left.
use Rattle.std.proofs.Common.{◌≡◌, ◌≤◌, ◌∙◌, ℕ, List, [], ◌∷◌, ◌++◌, append-nil, refl, subst, sym, ap}
use Rattle.idl_root_blocks.proofs.IdlCheckLaws.ToldLaws.{MoreTurns}
use Rattle.idl_root_blocks.specs.idl_check_laws.Closing.{AreTold}
use Rattle.idl_env.specs.Facts.{UnitFacts}
use Rattle.idl_env.specs.Turns.{most_turns, turns_for}
use Rattle.idl_kept.specs.Texts.{AreListsOf, DeclarationResult, Texts}
use Rattle.idl_memo.specs.declared.meter.Meter.{Meter}
use Rattle.idl_root.proofs.PassedLemmas.{compares-more, has-kept, passed-more}
use Rattle.idl_root.proofs.PiecesLemmas.{facts-inside, joined}
use Rattle.idl_root_blocks.specs.idl_check.walk.Verdict.{added}
use Rattle.idl_root.specs.Passed.{ArePassed, Compares, HasDrafts, with_kept}
use Rattle.idl_root.specs.Results.{IsDeclarationPass}
use Rattle.idl_root.specs.declared.kept.keeping.Keeping.{Keeping}
use Rattle.idl_root_blocks.proofs.Fronts.{Enough, Walked, text-told-over}
use Rattle.idl_root_blocks.specs.Blocks.{Block, IsOfBlock, Loose, Nothing, Pieces, AreCut, cut, text_in}
use Rattle.idl_root_blocks.proofs.Cuts.{cut-blocks, cut-whole}
use Rattle.idl_root_blocks.specs.Finding.{in_front}
use Rattle.idl_root_blocks.specs.Places.{DeclarationPlace, facts_behind, facts_over}
use Rattle.idl_root_blocks.specs.Units.{parts_of_unit, text_of}
use Rattle.idl_root_blocks.specs.declared.text.BlockPart.{BlockPart as Part}
use Rattle.idl_unit.specs.declared.unit.Unit.{Unit as RootUnit}
use Rattle.idl_unit.specs.declared.unit.Unit.TheVariants.{Spelled, Entered, Left, End}

-- ---- loose parts in front

pub front-text : (parts : List Part) → text_in (in_front parts Nothing) ≡ parts
front-text [] = refl
front-text (part ∷ parts) = ap (λ (t : List Part). part ∷ t) (front-text parts)

front-joined : (parts : List Part) (pieces : Pieces) → joined (in_front parts Nothing) pieces ≡ in_front parts pieces
front-joined [] pieces = refl
front-joined (part ∷ parts) pieces = ap (Loose part) (front-joined parts pieces)

module _ (none : (old : List DeclarationResult) (count : ℕ) → IsDeclarationPass [] old old count count)
    (both : (first second : List DeclarationPlace) (old between new : List DeclarationResult) (before at after : ℕ) → IsDeclarationPass first old between before at
    → IsDeclarationPass second between new at after → IsDeclarationPass (first ++ second) old new before after)
  where
    pub passed-front : Enough → Walked → MoreTurns → (facts : List UnitFacts) (parts : List Part) (pieces : Pieces) (kept between new : Texts) (keeping at behind : Keeping) → HasDrafts kept
        → ArePassed facts (in_front parts Nothing) kept keeping between at → ArePassed (facts_over facts parts) pieces between at new behind
        → ArePassed facts (in_front parts pieces) kept keeping new behind
    passed-front enough walked more facts parts pieces kept between new keeping at behind has first second =
        subst (λ (p : Pieces). ArePassed facts p kept keeping new behind) (front-joined parts pieces)
        (passed-more none both enough walked more facts (in_front parts Nothing) pieces kept between new keeping at behind has first
        (subst (λ (t : List Part). ArePassed (facts_over facts t) pieces between at new behind) (sym (front-text parts)) second))

pub compares-front : (facts : List UnitFacts) (parts : List Part) (pieces : Pieces) (kept between : Texts) (old at new : Meter) → HasDrafts kept
    → between ≡ with_kept kept facts (in_front parts Nothing)
    → Compares facts (in_front parts Nothing) kept old at → Compares (facts_over facts parts) pieces between at new
    → Compares facts (in_front parts pieces) kept old new
compares-front facts parts pieces kept between old at new has is first second =
    subst (λ (p : Pieces). Compares facts p kept old new) (front-joined parts pieces)
    (compares-more facts (in_front parts Nothing) pieces kept between old at new has is first
    (subst (λ (t : List Part). Compares (facts_over facts t) pieces between at new) (sym (front-text parts)) second))

-- ---- what stays so

-- where no more than the room of verdicts differs
pub passed-scratch : (facts : List UnitFacts) (pieces : Pieces) (kept new : Texts) (keeping at behind : Keeping) → behind ≡ record at { scratch = behind.scratch }
    → ArePassed facts pieces kept keeping new at → ArePassed facts pieces kept keeping new behind
passed-scratch facts pieces kept new keeping at behind is passed =
    subst (ArePassed facts pieces kept keeping new) (sym is) (record {
      kept_is = passed.kept_is;
      marks = passed.marks;
      keeping_is = passed.keeping_is;
      earlier = passed.earlier;
      counts = passed.counts;
      others = passed.others;
      blocks = passed.blocks;
      keys = passed.keys;
    })

pub lists-more : (old between new : Texts) → AreListsOf old between → AreListsOf between new → AreListsOf old new
lists-more old between new first second = record {
  declarations = second.declarations ∙ first.declarations;
  blocks = second.blocks ∙ first.blocks;
  begins = second.begins ∙ first.begins;
}

pub has-passed : (facts : List UnitFacts) (pieces : Pieces) (kept new : Texts) (keeping behind : Keeping) → ArePassed facts pieces kept keeping new behind → HasDrafts kept → HasDrafts new
has-passed facts pieces kept new keeping behind passed has = subst HasDrafts (sym passed.kept_is) (has-kept kept facts pieces has)

-- ---- facts behind it

pub over-unit : (facts : List UnitFacts) (u : RootUnit) → facts ++ added facts u ≡ facts_over facts (parts_of_unit u)
over-unit facts (Spelled text sites) = refl
over-unit facts (Entered file inside) = refl
over-unit facts (Left file inside) = refl
over-unit facts End = append-nil facts

pub told-unit : MoreTurns → (facts after : List UnitFacts) (u : RootUnit) → after ≡ facts_over facts (parts_of_unit u) → turns_for after ≤ most_turns → AreTold facts → AreTold after
told-unit more facts after u is turns told =
    subst AreTold (sym is) (text-told-over more (parts_of_unit u) facts (subst (λ (fs : List UnitFacts). turns_for fs ≤ most_turns) is turns) told)

pub told-block : MoreTurns → (facts after : List UnitFacts) (inside : Pieces) → after ≡ facts_behind facts inside → turns_for after ≤ most_turns → AreTold facts → AreTold after
told-block more facts after inside is turns told =
    let whole : after ≡ facts_over facts (text_in (Block inside Nothing)) = is ∙ sym (facts-inside inside Nothing facts) in
    subst AreTold (sym whole) (text-told-over more (text_in (Block inside Nothing)) facts (subst (λ (fs : List UnitFacts). turns_for fs ≤ most_turns) whole turns) told)

-- ---- pieces of units

-- where none is left
pub cut-none : (left : List RootUnit) → left ≡ [] → cut (text_of left) ≡ Nothing
unfolding cut
cut-none left none = ap (λ (us : List RootUnit). cut (text_of us)) none

-- a block in front is one
pub front-block : (text inside : List Part) (others : Pieces) → cut text ≡ Block (cut inside) others → IsOfBlock inside
front-block text inside others is =
    let all : AreCut (Block (cut inside) others) = subst AreCut is (cut-blocks text) in
    subst IsOfBlock (cut-whole inside) all.0
