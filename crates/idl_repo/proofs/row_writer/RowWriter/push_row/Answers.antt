use Rattle.std.proofs.Common.{◌∙◌, ap}
use Rattle.idl_memo.specs.Query.{run}
use Rattle.idl_repo.proofs.WriteLemmas.{grows-id, id-then, says-as, says-then}
use Rattle.idl_repo.specs.Row.{kind_word, path_text}
use Rattle.idl_env.specs.Facts.{answers}
use Rattle.idl_env.specs.keys.Key.{key_eq}
use Rattle.idl_scope.specs.Known.{id_of}
use Rattle.idl_repo.proofs.row_writer.RowWriter.push_row.Goals as goal

pub push_behind-requires : goal.push_behind-requires
push_behind-requires c =
    let before = c.args.self.now in
    (before.log, c.in_ok-id.ensures ∙ ap (λ path. run key_eq (id_of path) (answers before.env.now) before.log) c.path-path.ensures)

pub returns : goal.returns
returns c =
    let before = c.args.self.now in
    let told = c.in_ok-id.ensures ∙ ap (λ path. run key_eq (id_of path) (answers before.env.now) before.log) c.path-path.ensures in
    says-as c.in_ok-extend_from_slice.ensures.items (c.kind_word.ensures ∙ ap kind_word c.kind.ensures)
    (says-then c.in_ok-extend_from_slice-2.ensures.items
    (says-as c.in_ok-push_path.ensures (ap path_text (c.lent.ensures ∙ c.path-path.ensures))
    (says-then c.in_ok-extend_from_slice-3.ensures.items
    (id-then (grows-id c.in_ok-write.ensures told) c.in_ok-push_behind.ensures))))
