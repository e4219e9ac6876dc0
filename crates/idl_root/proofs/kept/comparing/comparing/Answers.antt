-- By the laws of places that are met, and of shared places.
use Rattle.std.proofs.Common.{◌∙◌, ◌+◌, ◌≡◌, ◌∷◌, ◌++◌, [], List, append-nil, ap, arith, sym}
use Rattle.std.specs.Prelude.{sum_by}
use Rattle.idl_root.specs.Compared.{entry_keys, shared_entries}
use Rattle.idl_root.specs.Places.{EntryPlace, entries_of, root_pieces, root_text}
use Rattle.idl_root.proofs.ComparedLemmas.{all-known, known-same, root-known, root-same}
use Rattle.idl_root.proofs.kept.comparing.comparing.Goals as goal

pub returns-clause-same : goal.returns-clause-same
returns-clause-same c = λ known other these those events declarations blocks names.
    root-same known other these those events
    (c.meeting.ensures.known known other [] (root_pieces events) (known-same known other declarations blocks))
    (c.sharing.ensures.known these those (entries_of events) (c.freshness.ensures.there these those names.0) (c.freshness.ensures.there those these names.1))

pub returns-clause-known : goal.returns-clause-known
returns-clause-known c = λ known entries events declarations blocks names.
    let pieces = root_pieces events in
    let all = all-known known events (c.cutting.ensures.whole (root_text events)) declarations blocks
    (c.repeating.ensures.itself (record { declarations = []; blocks = [] }) [] pieces) in
    let here : List EntryPlace = entries_of events in
    let aside = c.sharing.ensures.aside entries [] here [] (c.freshness.ensures.there here entries names) in
    let none : shared_entries entries [] ≡ 0 = c.sharing.ensures.none entries in
    let whole : shared_entries entries here ≡ shared_entries entries [] + sum_by entry_keys here = ap (shared_entries entries) (sym (append-nil here)) ∙ aside in
    root-known known entries events (c.repeating.ensures.all known [] pieces all) (omega (arith, whole, none))

pub returns-clause-entries_none : goal.returns-clause-entries_none
returns-clause-entries_none c = c.sharing.ensures.none

pub returns-clause-entries_more : goal.returns-clause-entries_more
returns-clause-entries_more c = λ known here more.
    c.sharing.ensures.split known (here ∷ []) more ∙ ap (λ n. n + shared_entries (known ++ here ∷ []) more) (c.sharing.ensures.one known here)

pub returns-clause-entries_most : goal.returns-clause-entries_most
returns-clause-entries_most c = c.sharing.ensures.most
