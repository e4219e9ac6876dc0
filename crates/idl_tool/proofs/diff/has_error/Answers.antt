use Rattle.std.proofs.Common.{◌≡◌, ◌∙◌, ◌||◌, Bool, ap, sym}
use Rattle.idl_driver.specs.Rows.{are_faulty}
use Rattle.idl_tool.proofs.DiffLemmas.{error-of}
use Rattle.idl_tool.proofs.diff.has_error.Goals as goal

pub returns-then-is_old_faulty : goal.returns-then-is_old_faulty
returns-then-is_old_faulty c =
    let old = c.args.old.now in
    let new = c.args.new.now in
    let first : c.are_faulty-is_old_faulty.result ≡ are_faulty old.compiled.items = c.are_faulty-is_old_faulty.ensures ∙ ap are_faulty c.deref.ensures.value in
    c.if-is_old_faulty.true ∙ ap (λ (b : Bool). b || are_faulty new.compiled.items) (sym c.if-is_old_faulty.true ∙ first) ∙ error-of old new c.requires.first c.requires.second

pub returns-else-is_old_faulty : goal.returns-else-is_old_faulty
returns-else-is_old_faulty c =
    let old = c.args.old.now in
    let new = c.args.new.now in
    let first : c.are_faulty-is_old_faulty.result ≡ are_faulty old.compiled.items = c.are_faulty-is_old_faulty.ensures ∙ ap are_faulty c.deref.ensures.value in
    let second : c.are_faulty-is_new_faulty.result ≡ are_faulty new.compiled.items = c.are_faulty-is_new_faulty.ensures ∙ ap are_faulty c.deref-2.ensures.value in
    second ∙ ap (λ (b : Bool). b || are_faulty new.compiled.items) (sym c.if-is_old_faulty.false ∙ first) ∙ error-of old new c.requires.first c.requires.second
