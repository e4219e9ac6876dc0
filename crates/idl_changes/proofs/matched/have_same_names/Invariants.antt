use Rattle.std.proofs.Common.{◌≡◌, drop, map}
use Rattle.std.specs.Cmp.Lexicographic.{pointwise}
use Rattle.std.specs.Str.{bytes_eq}
use Rattle.idl_changes.proofs.matched.have_same_names.Given as goal

-- those that are left are the same if all are
abbrev pub invariant-loop-place : goal.invariant-loop-place
invariant-loop-place g l =
    pointwise bytes_eq (map g.T.Named.name_of (drop l.place l.old)) (map g.T.Named.name_of (drop l.place l.new))
    ≡ pointwise bytes_eq (map g.T.Named.name_of l.old) (map g.T.Named.name_of l.new)
