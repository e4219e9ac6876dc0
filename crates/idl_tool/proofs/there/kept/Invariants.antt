use Rattle.std.proofs.Common.{◌≡◌, ◌++◌, drop, map}
use Rattle.idl_tool.specs.There.{kept}
use Rattle.idl_tool.proofs.there.kept.Given as goal

-- those that are left come behind
abbrev pub invariant-files : goal.invariant-files
invariant-files l =
    map (λ w. w.now) l.left.items ++ kept (drop l.place l.had) (drop l.place l.others) (map (λ w. w.now) (drop l.place l.files))
    ≡ kept l.had l.others (map (λ w. w.now) l.files)
