use Rattle.std.proofs.Common.{◌≡◌, drop}
use Rattle.std.specs.Str.{bytes_eq}
use Rattle.idl_check.proofs.ids.identifying.is_spelled.Given as goal

-- what is left of one is compared with what is left of the other
abbrev pub invariant-loop-character : goal.invariant-loop-character
invariant-loop-character l = bytes_eq l.fn.text l.fn.id ≡ bytes_eq (drop l.character-index l.fn.text) l.left
