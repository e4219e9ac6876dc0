-- Where no change counts for servants, an interface offers all that its partner does, by name.
use Rattle.std.proofs.Common.{◌≡◌, ◌∙◌, ◌++◌, [], ℕ, Bool, List, Some, ap, codes, false, if◌then◌else◌, inl, inr, nat_eq, refl, sym, true}
use Rattle.std.specs.List.{list_all, list_any}
use Rattle.idl_base.specs.Exact.{same_number, same_option}
use Rattle.idl_changes.specs.Changes.{changes}
use Rattle.idl_changes.specs.Differences.{base_line, gone_bases, new_bases, told}
use Rattle.idl_changes.specs.Laws.{NoneHas, Serves}
use Rattle.idl_changes.specs.Listing.{name_at, name_of, path_at}
use Rattle.idl_changes.specs.Offered.{ancestors, called_in, is_offered, offers}
use Rattle.idl_changes.specs.Partners.{is_partner, joined}
use Rattle.idl_changes.specs.declared.change.Difference.{Difference}
use Rattle.idl_changes.specs.declared.change.Turn.TheVariants as turn
use Rattle.idl_changes.specs.declared.rows.Line.TheVariants as line
use Rattle.idl_changes.specs.declared.rows.Weights.{Weights}
use Rattle.idl_changes.proofs.AllLemmas.{All-each}
use Rattle.idl_changes.proofs.EntryLemmas.{interface-uncalled}
use Rattle.idl_changes.proofs.HasLemmas.{Has, all-has, all-passes, has-either, has-first, has-rest, one-passes}
use Rattle.idl_changes.proofs.InheritLemmas.{called-there, is_offered-up, name_at-is, offers-from, offers-own}
use Rattle.idl_changes.proofs.JoinedLemmas.{joined-back}
use Rattle.idl_changes.proofs.WeightLemmas.{Lacks, lacks-back, lacks-called-new, lacks-interface, lacks-joined, lacks-kind, lacks-none, lacks-unless}
use Rattle.idl_repo.specs.declared.details.row_tree.RowTree.{RowTree}

abbrev servant : Weights → Bool
servant w = w.servant

module _ (old new : List RowTree) (none : NoneHas servant (changes old new)) where
  -- what is called in the scope of a partner is offered
  of-partner : (h j m : ℕ) → joined old new m ≡ Some j → Has (called_in new j) h → is_offered old m (name_at new h) ≡ true
  of-partner h j m is own =
      let there = called-there new j h own in
      let f = there.0 in
      let back = joined-back old new m j is in
      let all = lacks-called-new servant old new none h j m f there.1 there.2 there.3 back.3 in
      ap (is_offered old m) (name_at-is new h f there.1) ∙ lacks-unless servant (is_offered old m (name_of f.path)) line.CalledNew [] turn.New refl all

  -- of a base that is new to the interface all is offered
  of-new : (i j h : ℕ) → Lacks servant (told (base_line old new i j) (codes "base " ++ path_at new j) turn.New) → Has (called_in new j) h
      → is_offered old i (name_at new h) ≡ true
  of-new i j h all own = by (list_all (λ (n : ℕ). is_offered old i (name_at new n)) (offers new j)) refl all
    where
      by : (b : Bool) → list_all (λ (n : ℕ). is_offered old i (name_at new n)) (offers new j) ≡ b
          → Lacks servant (told (if b then line.BareBase else line.BringingBase) (codes "base " ++ path_at new j) turn.New) → is_offered old i (name_at new h) ≡ true
      by true is bases =
          all-passes (λ (n : ℕ). is_offered old i (name_at new n)) (offers new j) h is (offers-own new j j h (has-first j (ancestors new j)) own)
      by false is bases = absurd (lacks-none servant line.BringingBase (codes "base " ++ path_at new j) turn.New refl bases)

  -- of what the partner inherits
  of-base : (i k j h : ℕ) → Lacks servant (new_bases old new i k) → Has (ancestors new k) j → Has (called_in new j) h → is_offered old i (name_at new h) ≡ true
  of-base i k j h all above own =
      let one = All-each (λ (d : Difference). servant d.weights ≡ false)
      (λ (n : ℕ). if list_any (λ (m : ℕ). is_partner old new m (Some n)) (ancestors old i) then [] else told (base_line old new i n) (codes "base " ++ path_at new n) turn.New)
      (ancestors new k) j above all
      in
      by (list_any (λ (m : ℕ). is_partner old new m (Some j)) (ancestors old i)) refl one
    where
      by : (b : Bool) → list_any (λ (m : ℕ). is_partner old new m (Some j)) (ancestors old i) ≡ b
          → Lacks servant (if b then [] else told (base_line old new i j) (codes "base " ++ path_at new j) turn.New) → is_offered old i (name_at new h) ≡ true
      by true is bases =
          let some = one-passes (λ (m : ℕ). is_partner old new m (Some j)) (ancestors old i) is in
          let joins : joined old new some.0 ≡ Some j = same_option nat_eq same_number (joined old new some.0) (Some j) some.2 in
          is_offered-up old i some.0 (name_at new h) (has-rest i some.0 (ancestors old i) some.1) (of-partner h j some.0 joins own)
      by false is bases = of-new i j h bases own

pub servants-serve : (old new : List RowTree) → NoneHas (λ w. w.servant) (changes old new) → Serves old new
servants-serve old new none i k e at is joins =
    let back = joined-back old new i k joins in
    let all = lacks-joined servant old new none i k e back.0 at (interface-uncalled e is) joins back.1 in
    let body = (lacks-kind servant old new none refl i k e back.0 all).1 in
    let bases = lacks-back servant (gone_bases old new i k) (new_bases old new i k) (lacks-interface servant old new none refl i k e back.0 is body).1 in
    all-has (λ (h : ℕ). is_offered old i (name_at new h) ≡ true) (offers new k)
    (λ h within.
    (let from = offers-from new k h within in
    elim (has-either k from.0 (ancestors new k) from.1) [
      | inl same ↦ of-partner old new none h from.0 i (joins ∙ ap Some (sym same)) from.2
      | inr above ↦ of-base old new none i k from.0 h bases above from.2
    ]))
