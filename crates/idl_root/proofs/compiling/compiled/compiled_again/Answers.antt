use Rattle.std.proofs.Common.{◌≡◌, ◌∙◌, ap, rules, sym}
use Rattle.idl_root.specs.AsBefore.{kept_lists}
use Rattle.idl_kept.specs.Texts.{DeclarationResult}
use Rattle.idl_root.specs.Results.{RootMarks}
use Rattle.idl_root.proofs.CompileLemmas.{start-course}
use Rattle.idl_root.proofs.TakenLemmas.{at-some, some-holds}
use Rattle.idl_store.specs.Stored.{Stored, list_at}
use Rattle.idl_unit.specs.Units.{units_of}
use Rattle.idl_root.proofs.compiling.compiled.compiled_again.Goals as goal

-- the units of the course were those of the root
pub told_again-requires-clause-kept : goal.told_again-requires-clause-kept
told_again-requires-clause-kept c =
    let root = c.args.before in
    let lists = c.declarations.result.now.lists in
    let all = kept_lists c.args.keeper.now root.at in
    let there : all.declarations ≡ list_at lists root.at = ap (λ (s : Stored DeclarationResult). list_at s.lists root.at) (sym c.declarations.ensures) in
    let was = c.requires.kept.0 in
    let kept = c.requires.kept.1 in
    let course = start-course lists c.new-earlier.result root.at root.marks.now.value c.new-earlier.ensures.list c.new-earlier.ensures.place (c.new-earlier.ensures.marks ∙ ap (λ (m : RootMarks). m.marks) c.deref.ensures) was all there kept in
    (was, kept, at-some root.compiled c.in-Some.compiled _ c.in-Some.is c.requires.kept.2, c.are_as_before.ensures (search rules) (units_of was) course)

pub returns-clause-same : goal.returns-clause-same
returns-clause-same c =
    let root = c.args.before in
    let lists = c.declarations.result.now.lists in
    let all = kept_lists c.args.keeper.now root.at in
    let there : all.declarations ≡ list_at lists root.at = ap (λ (s : Stored DeclarationResult). list_at s.lists root.at) (sym c.declarations.ensures) in
    some-holds c.in_ok-told_again.field-0 _
    (λ compiled was kept.
    let course = start-course lists c.new-earlier.result root.at root.marks.now.value c.new-earlier.ensures.list c.new-earlier.ensures.place (c.new-earlier.ensures.marks ∙ ap (λ (m : RootMarks). m.marks) c.deref.ensures) was all there kept in
    c.are_as_before.ensures (search rules) (units_of was) course)
