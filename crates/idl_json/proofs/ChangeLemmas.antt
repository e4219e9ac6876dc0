-- A change has no float in it.
use Rattle.std.proofs.Common.{◌≡◌, ◌∷◌, [], ℕ, false, List, None, Option, Some, codes, refl}
use Rattle.serde_json.specs.Data.{Members, put}
use Rattle.serde_json.specs.Written.{has_float, members_have_float}
use Rattle.idl_changes.specs.Changes.{weight_names}
use Rattle.idl_changes.specs.declared.change.Turn.{Turn}
use Rattle.idl_changes.specs.declared.change.Turn.TheVariants as turn
use Rattle.idl_repo.specs.declared.details.row_tree.RowTree.{RowTree}
use Rattle.idl_json.specs.Change.{LocatedChange, change_json, part_fields, shown_fields, told_of, turn_fields}
use Rattle.idl_json.specs.Listed.{NamePlace, kept_column}
use Rattle.idl_json.specs.Objects.{number_json, with_fields}
use Rattle.idl_json.specs.Text.{text_json}
use Rattle.idl_json.proofs.FloatLemmas.{put-plain, texts-plain}
use Rattle.idl_json.proofs.ListedLemmas.{column-plain}

told-plain : (e : RowTree) (weights : List (List ℕ)) → members_have_float (told_of e weights) ≡ false
told-plain e weights = rw (texts-plain weights) refl

part-plain : (ms : Members) (part : List ℕ) → members_have_float ms ≡ false → members_have_float (with_fields ms (part_fields part)) ≡ false
part-plain ms [] plain = plain
part-plain ms (byte ∷ part) plain = put-plain (codes "part") (text_json (byte ∷ part)) ms refl plain

turn-plain : (ms : Members) (what : Turn) → members_have_float ms ≡ false → members_have_float (with_fields ms (turn_fields what)) ≡ false
turn-plain ms turn.Gone plain = put-plain (codes "word") (text_json (codes "is gone")) ms refl plain
turn-plain ms turn.New plain = put-plain (codes "word") (text_json (codes "is new")) ms refl plain
turn-plain ms (turn.NewAt n) plain =
    put-plain (codes "number") (number_json n) (put (codes "word") (text_json (codes "is new")) ms) refl (put-plain (codes "word") (text_json (codes "is new")) ms refl plain)
turn-plain ms (turn.Changed was is) plain =
    put-plain (codes "new") (text_json is) (put (codes "old") (text_json was) ms) refl (put-plain (codes "old") (text_json was) ms refl plain)

shown-plain : (ms : Members) (declared : Option NamePlace) → members_have_float ms ≡ false → members_have_float (with_fields ms (shown_fields declared)) ≡ false
shown-plain ms None plain = plain
shown-plain ms (Some p) plain =
    let file = put (codes "file") (text_json p.place.file) ms in
    column-plain (put (codes "line") (number_json p.place.line) file) (kept_column p.column)
    (put-plain (codes "line") (number_json p.place.line) file refl (put-plain (codes "file") (text_json p.place.file) ms refl plain))

pub change-plain : (c : LocatedChange) → has_float (change_json c) ≡ false
change-plain c =
    let told = told_of c.tree (weight_names c.difference.weights) in
    let part = with_fields told (part_fields c.difference.part) in
    shown-plain (with_fields part (turn_fields c.difference.turn)) c.declared
    (turn-plain part c.difference.turn (part-plain told c.difference.part (told-plain c.tree (weight_names c.difference.weights))))
