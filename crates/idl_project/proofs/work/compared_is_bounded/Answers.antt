-- Place by place.
use Rattle.std.proofs.Common.{◌≡◌, ◌≤◌, ◌+◌, ◌∷◌, [], List, arith, refl, subst}
use Rattle.std.proofs.lemmas.List.Sums.{sum_by-cons}
use Rattle.std.specs.Option.{option_eq}
use Rattle.std.specs.Str.{bytes_eq}
use Rattle.idl_event.specs.Key.{key_eq}
use Rattle.idl_event.specs.declared.asked.key.RootAnswer.{RootAnswer}
use Rattle.std.specs.Prelude.{Bool}
use Rattle.idl_memo.specs.Fresh.{most_shared_at, shared_at}
use Rattle.idl_prep.specs.Root.{expansion}
use Rattle.idl_sources.specs.idl_root.Compared.{most_shared_entry, shared_entry}
use Rattle.idl_sources.specs.idl_root.Places.{EntryPlace}
use Rattle.idl_sources.specs.idl_root.idl_root_blocks.Met.{Met, compared, most_compared, most_shared_by, shared_by}
use Rattle.idl_project.specs.Compared.{MetEntry, MetRoot, MetText, PlaceMet, compared_in, most_compared_in, most_shared_keys, shared_keys}
use Rattle.idl_project.specs.Tasks.{RootPlace}
use Rattle.idl_project.specs.Work.{met_of}
use Rattle.idl_project.proofs.KeptLemmas.{answer_eq-derived}
use Rattle.idl_project.proofs.work.compared_is_bounded.Goals as goal

module _ (roots : (known : List RootPlace) (here : RootPlace) → shared_keys (MetRoot known here) ≤ most_shared_keys (MetRoot known here))
    (texts : (met : List Met) → compared met ≤ most_compared met)
    (names : (known : List EntryPlace) (here : EntryPlace) → shared_entry known here ≤ most_shared_entry known here) where
  bounded : (met : PlaceMet) → shared_keys met ≤ most_shared_keys met
  bounded (MetRoot known here) = roots known here
  bounded (MetText met) =
      let one = texts (met ∷ []) in
      let less : compared (met ∷ []) ≡ shared_by met + 0 = sum_by-cons shared_by met [] in
      let most : most_compared (met ∷ []) ≡ most_shared_by met + 0 = sum_by-cons most_shared_by met [] in
      omega (arith, one, less, most)
  bounded (MetEntry known here) = names known here

  all-bounded : (met : List PlaceMet) → compared_in met ≤ most_compared_in met
  all-bounded [] = omega arith
  all-bounded (m ∷ met) =
      let first = bounded m in
      let rest = all-bounded met in
      let less = sum_by-cons shared_keys m met in
      let most = sum_by-cons most_shared_keys m met in
      omega (arith, first, rest, less, most)

pub returns-clause-least : goal.returns-clause-least
returns-clause-least c = λ old new. refl

pub returns-clause-most : goal.returns-clause-most
returns-clause-most c = λ old new.
    let most = all-bounded
    (λ known here.
    subst
    (λ (e : RootAnswer → RootAnswer → Bool). shared_at bytes_eq (option_eq e) expansion key_eq known here ≤ most_shared_at bytes_eq (option_eq e) expansion key_eq known here)
    answer_eq-derived (c.sharing.ensures.most known here))
    c.meeting.ensures.most c.comparing.ensures.entries_most (met_of old new) in
    omega (arith, most)
