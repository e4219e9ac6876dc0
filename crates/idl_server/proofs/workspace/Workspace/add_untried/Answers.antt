use Rattle.std.proofs.Common.{◌≡◌, ℕ, All, List, subst, sym, take, true}
use Rattle.std.proofs.lemmas.List.{take_all}
use Rattle.std.proofs.lemmas.List.Elements.{All-get_or, All-same}
use Rattle.idl_loader.proofs.ListLemmas.{All-take_more}
use Rattle.idl_project.specs.idl_sources.Compile.{compiled_root}
use Rattle.idl_inputs.specs.Project.{is_root}
use Rattle.idl_server.specs.Files.{IsTried}
use Rattle.idl_server.proofs.RootLemmas.{absent-tried, root-lost}
use Rattle.idl_server.proofs.workspace.Workspace.add_untried.Goals as goal

-- a root asks for something
pub roots-preserved-in_default : goal.roots-preserved-in_default
roots-preserved-in_default c =
    let project = c.args.self.now.session.project in
    let root = c.root-item.result in
    let is : is_root project root ≡ true =
    subst (λ (r : List ℕ). is_root project r ≡ true) (sym c.root-item.is)
    (All-get_or (λ r. is_root project r ≡ true) c.args.roots.now c.roots.root-index root c.roots-test.true c.requires)
    in
    absurd (root-lost project root _ is c.as_bytes.ensures.bytes c.in_default.ensures)

-- what one root more asks for
pub roots-preserved : goal.roots-preserved
roots-preserved c =
    let w = c.args.self.now in
    let project = w.session.project in
    let root = c.root-item.result in
    let is : is_root project root ≡ true =
    subst (λ (r : List ℕ). is_root project r ≡ true) (sym c.root-item.is)
    (All-get_or (λ r. is_root project r ≡ true) c.args.roots.now c.roots.root-index root c.roots-test.true c.requires)
    in
    record {
      closed = λ all. c.in_ok-add_absent.ensures.closed (c.roots.invariant.closed all);
      tried = λ none.
          let one = c.in_ok-add_absent.ensures.tried none in
          let before = c.roots.invariant.tried one.0 in (
            before.0,
            All-take_more (λ r. All (IsTried w) (compiled_root project.inputs r).absent) c.args.roots.now c.roots.root-index root c.roots-test.true c.root-item.is before.1
                (absent-tried w root _ _ is c.as_bytes.ensures.bytes c.in-Some.ensures one.1),
          );
    }

pub returns-clause-tried : goal.returns-clause-tried
returns-clause-tried c = λ none.
    let w = c.args.self.now in
    let before = c.roots.invariant.tried none in
    let roots = c.args.roots.now in (
      before.0,
      All-same (λ r. All (IsTried w) (compiled_root w.session.project.inputs r).absent) roots (take c.roots.root-index roots)
          (sym (take_all c.roots.root-index roots c.roots-test.false)) before.1,
    )
