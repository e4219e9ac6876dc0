use Rattle.std.proofs.Common.{◌≡◌, ◌++◌, drop}
use Rattle.idl_check.specs.tables.Rules.{is_visible}
use Rattle.idl_check.proofs.ids.identifying.visible.Given as goal

-- the bytes so far, which are visible, and the rest are the text
abbrev pub invariant-loop-character : goal.invariant-loop-character
invariant-loop-character l = record {
  seen : is_visible l.fn.text ≡ is_visible (drop l.character-index l.fn.text);
  same : l.fn.text ≡ l.bytes.items ++ drop l.character-index l.fn.text;
}
