-- What the tree of a file asks and tells, from left to right.
use Rattle.std.specs.Prelude.{Bool, true, false, ◌||◌, Some, if◌then◌else◌}
use Rattle.idl_memo.specs.Query.{Done, Tell, and_then}
use Rattle.idl_event.specs.Expanding.{Expanding}
use Rattle.idl_fault.specs.declared.file_name.FileName.{FileName}
use Rattle.idl_fault.specs.declared.code.Code.TheVariants.{OutOfPlace, NotClosed}
use Rattle.idl_event.specs.declared.told.event.Item.{Item}
use Rattle.idl_event.specs.declared.told.event.Event.TheVariants.{Fault}
use Rattle.idl_event.specs.declared.told.event.Item.TheVariants.{Turn, Kept}
use Rattle.idl_text.specs.Line.{Directive}
use Rattle.idl_text.specs.Tree.{Tree, Leaf, Stray, Group, Forest, Empty, Grow, Branches, Closed, Unclosed, Branch, is_else}
use Rattle.idl_text.specs.declared.groups.kind.Test.TheVariants.{If}
use Rattle.idl_prep.specs.Directive.{Enter, effect, test}
use Rattle.idl_prep.specs.Place.{place_in}
use Rattle.idl_prep.specs.State.{Said}
use Rattle.idl_prep.specs.declared.walk.groups.Opener.{Opener}

-- the directive that opens a group
abbrev pub opener_of : Directive → Opener
opener_of d = record { line = d.line; word = d.word.token }

-- a directive of a group is out of place
abbrev pub out_of_place : FileName → Directive → Item
out_of_place file d = Kept (Fault (place_in file d) OutOfPlace (Some d.word.token))

-- a group goes to its file's end
abbrev pub not_closed : FileName → Opener → Item
not_closed file o = Kept (Fault (record { file = file; line = o.line }) NotClosed (Some o.word))

-- whether a branch after the first is taken: none is where one before it was, and else an `else` is
abbrev pub decision : FileName → Directive → Bool → Said → Expanding Bool
decision file d true s = Done false
decision file d false s = if is_else d.kind then Done true else test file d If s

-- in skipped lines only the directives of groups count, and they are no turns
unfoldable mutual
  pub skip : FileName → Forest → Said → Expanding Said
  skip file Empty s = Done s
  skip file (Grow t f) s = and_then (skip_tree file t s) (skip file f)

  pub skip_tree : FileName → Tree → Said → Expanding Said
  skip_tree file (Leaf line) s = Done s
  skip_tree file (Stray d) s = Tell (out_of_place file d) (Done s)
  skip_tree file (Group d what f bs) s =
      and_then (skip file f s) (skip_branches file bs (opener_of d))

  pub skip_branches : FileName → Branches → Opener → Said → Expanding Said
  skip_branches file (Closed d) opener s = Done s
  skip_branches file Unclosed opener s = Tell (not_closed file opener) (Done s)
  skip_branches file (Branch d f bs) opener s =
      and_then (skip file f s) (skip_branches file bs opener)

unfoldable mutual
  pub walk : Enter → FileName → Forest → Said → Expanding Said
  walk enter file Empty s = Done s
  walk enter file (Grow t f) s = and_then (walk_tree enter file t s) (walk enter file f)

  pub walk_tree : Enter → FileName → Tree → Said → Expanding Said
  walk_tree enter file (Leaf line) s = effect enter file line s
  walk_tree enter file (Stray d) s =
      Tell (Turn (place_in file d)) (Tell (out_of_place file d) (Done s))
  walk_tree enter file (Group d what f bs) s =
      Tell (Turn (place_in file d)) (and_then (test file d what s)
      (λ b. and_then (if b then walk enter file f s else skip file f s)
      (walk_branches enter file bs (opener_of d) b)))

  -- the branches after the first: one before them was taken, or none
  pub walk_branches : Enter → FileName → Branches → Opener → Bool → Said → Expanding Said
  walk_branches enter file (Closed d) opener taken s = Tell (Turn (place_in file d)) (Done s)
  walk_branches enter file Unclosed opener taken s = Tell (not_closed file opener) (Done s)
  walk_branches enter file (Branch d f bs) opener taken s =
      Tell (Turn (place_in file d)) (and_then (decision file d taken s)
      (λ b. and_then (if b then walk enter file f s else skip file f s)
      (walk_branches enter file bs opener (taken || b))))
