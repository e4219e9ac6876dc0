use Rattle.std.proofs.Common.{ℕ, List, refl, subst}
use Rattle.std.proofs.lemmas.List.{take_all}
use Rattle.idl_server.specs.Late.{ArePut}
use Rattle.idl_server.proofs.LateLemmas.{put-filed, put-rooted, puts-more}
use Rattle.idl_server.proofs.workspace.Workspace.put_each.Goals as goal

pub names-init : goal.names-init
names-init c = record { put = refl; filed = λ told are. are; rooted = λ are. are }

pub names-preserved : goal.names-preserved
names-preserved c =
    let name = c.name-item.result in
    let mid = c.names.self in
    let new = c.put_whole.new.self in
    let before = c.names.invariant in
    let puts = c.in_ok-put_whole.ensures in
    record {
      put = puts-more c.args.names.now c.names.name-index name c.args.self.now mid new c.names-test.true c.name-item.is before.put
          (record { set = puts.beside.set; documents = puts.beside.documents; text = puts.text; held = puts.held });
      filed = λ told are. put-filed told name mid new puts.beside puts.filed c.put_whole.ensures.absent (before.filed told are);
      rooted = λ are. put-rooted name mid new puts.beside puts.text (before.rooted are);
    }

pub returns-clause-put : goal.returns-clause-put
returns-clause-put c =
    subst (λ (names : List (List ℕ)). ArePut names c.args.self.now c.names.self) (take_all c.names.name-index c.args.names.now c.names-test.false) c.names.invariant.put
