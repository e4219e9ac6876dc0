use Rattle.std.proofs.Common.{◌∙◌, List, ap, map, sym}
use Rattle.std.proofs.lemmas.List.{take_all}
use Rattle.idl_json.specs.Listed.{row_of}
use Rattle.idl_json.specs.declared.listed.ListedRow.{ListedRow}
use Rattle.idl_tool.specs.Compared.{declared_text, each_once}
use Rattle.idl_tool.proofs.OnceLemmas.{once-new, once-old}
use Rattle.idl_tool.proofs.once.each_once.Goals as goal

pub each-init : goal.each-init
each-init c =
    let none = c.new-once.ensures.items in
    record {
      keys = c.new-keys.ensures.empty ∙ sym (ap (λ (rs : List ListedRow). map declared_text (map row_of rs)) none);
      once = ap (map row_of) none;
    }

pub each-preserved-then-not-is_new : goal.each-preserved-then-not-is_new
each-preserved-then-not-is_new c =
    let old =
    once-old c.args.rows.now c.each.row-index c.row-item.result c.each.once.items c.each.keys.keys c.in_ok-key.key c.in_ok-is_new.is_new c.each-test.true c.row-item.is c.each.invariant.keys
    c.each.invariant.once c.in_ok-key.ensures c.in_ok-is_new.ensures.added c.insert.new.self.keys c.if-not-is_new.true c.in_ok-is_new.ensures.keys in
    record { keys = old.0; once = old.1 }

pub each-preserved : goal.each-preserved
each-preserved c =
    let new =
    once-new c.args.rows.now c.each.row-index c.row-item.result c.each.once.items c.each.keys.keys c.in_ok-key.key c.in_ok-is_new.is_new c.each-test.true c.row-item.is c.each.invariant.keys
    c.each.invariant.once c.in_ok-key.ensures c.in_ok-is_new.ensures.added c.insert.new.self.keys c.push.new.self.items c.if-not-is_new.false c.in_ok-is_new.ensures.keys c.in_ok-push.ensures.items in
    record { keys = new.0; once = new.1 }

pub returns : goal.returns
returns c =
    c.each.invariant.once ∙ ap (λ (rs : List ListedRow). each_once (map row_of rs)) (take_all c.each.row-index c.args.rows.now c.each-test.false)
