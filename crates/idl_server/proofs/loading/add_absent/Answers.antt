use Rattle.std.proofs.Common.{◌∙◌, None, ℕ, List, subst, sym, take}
use Rattle.std.proofs.lemmas.List.{take_all}
use Rattle.std.proofs.lemmas.List.Elements.{All-same}
use Rattle.std.specs.Map.{lookup}
use Rattle.std.specs.Prelude.{All, ◌≡◌}
use Rattle.std.specs.Str.{bytes_eq}
use Rattle.idl_loader.proofs.ListLemmas.{All-take_more}
use Rattle.idl_server.specs.Files.{IsNamed}
use Rattle.idl_server.proofs.RootLemmas.{all-inserted, some-inserted}
use Rattle.idl_server.proofs.loading.add_absent.Goals as goal

pub absent-preserved-then-is_tried : goal.absent-preserved-then-is_tried
absent-preserved-then-is_tried c = record {
  closed = c.absent.invariant.closed;
  tried = λ none.
      let before = c.absent.invariant.tried none in (
        before.0,
        All-take_more (IsNamed c.args.tried.now.keys c.args.documents.now.entries) c.args.absent.now c.absent.name-index c.name-item.result c.absent-test.true c.name-item.is before.1
            (c.is_tried.ensures.tried c.if-is_tried.true),
      );
}

pub absent-preserved : goal.absent-preserved
absent-preserved c =
    let documents = c.args.documents.now.entries in
    record {
      closed = λ all.
          subst (λ (names : List (List ℕ)). All (λ name. lookup (bytes_eq name) documents ≡ None) names)
          (sym (c.in_ok-insert.ensures.keys))
          (all-inserted (λ name. lookup (bytes_eq name) documents ≡ None) _ _ (c.absent.invariant.closed all)
          (subst (λ (name : List ℕ). lookup (bytes_eq name) documents ≡ None) (sym c.copied.ensures) (c.is_tried.ensures.closed c.if-is_tried.false)));
      tried = λ none. absurd (some-inserted c.absent.names.keys c.copied.result (sym c.in_ok-insert.ensures.keys ∙ none));
    }

pub returns-clause-tried : goal.returns-clause-tried
returns-clause-tried c = λ none.
    let before = c.absent.invariant.tried none in
    let absent = c.args.absent.now in
    (before.0, All-same (IsNamed c.args.tried.now.keys c.args.documents.now.entries) absent (take c.absent.name-index absent) (sym (take_all c.absent.name-index absent c.absent-test.false)) before.1)
