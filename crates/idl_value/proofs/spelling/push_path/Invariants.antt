use Rattle.std.proofs.Common.{◌≡◌, ◌≤◌, ◌-◌, ◌++◌, drop, length}
use Rattle.idl_value.specs.Spelled.{path_word}
use Rattle.idl_value.proofs.spelling.push_path.Given as goal

-- those of the last names
abbrev pub invariant-loop-back : goal.invariant-loop-back
invariant-loop-back l = record {
  count : l.count ≡ length l.path;
  within : l.back ≤ l.count;
  text : l.text.items ≡ l.fn.text.items ++ path_word (drop (l.count - l.back) l.path);
}
