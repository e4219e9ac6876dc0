use Rattle.std.proofs.Common.{◌≡◌, ◌∙◌, ◌+◌, ◌++◌, ◌<◌, Some, length, drop, slice_index_or, sym, ap, rules}
use Rattle.std.specs.Option.{option_or, unwrap_or}
use Rattle.idl_editor.specs.uris.Folders.{escaped, name_among, name_in}
use Rattle.idl_editor.proofs.FolderLemmas.{among-step, not-in, was-in}
use Rattle.idl_editor.proofs.uris.folders.Folders.text_of.Goals as goal

pub returns-then-branch : goal.returns-then-branch
returns-then-branch c =
    let folders = c.args.self.now in
    let path = c.args.path.now in
    let f = c.folder-item.result in
    let k = c.loop-folder.folder-index in
    let within : k < length folders = search rules in
    let at : slice_index_or folders k f ≡ f = search rules in
    let put = was-in (name_in f path) c.in_ok-push_name.field-0 c.push_name.new.name.items c.loop-folder.name.items c.in_ok-push_name.ensures c.if-branch.true in
    let found : name_among folders path ≡ Some put.0 =
    c.loop-folder.invariant.left ∙ among-step folders k f path within
    ∙ ap (λ g. option_or (name_in g path) (name_among (drop (k + 1) folders) path)) at
    ∙ ap (λ o. option_or o (name_among (drop (k + 1) folders) path)) put.1 in
    put.2 ∙ ap (λ t. t ++ put.0) c.loop-folder.invariant.none ∙ sym (ap (λ o. unwrap_or o (escaped path)) found)

pub loop-folder-preserved : goal.loop-folder-preserved
loop-folder-preserved c =
    let folders = c.args.self.now in
    let path = c.args.path.now in
    let f = c.folder-item.result in
    let k = c.loop-folder.folder-index in
    let within : k < length folders = search rules in
    let at : slice_index_or folders k f ≡ f = search rules in
    let none = not-in (name_in f path) c.in_ok-push_name.field-0 c.push_name.new.name.items c.loop-folder.name.items c.in_ok-push_name.ensures c.if-branch.false in
    record {
      left = c.loop-folder.invariant.left ∙ among-step folders k f path within
          ∙ ap (λ g. option_or (name_in g path) (name_among (drop (k + 1) folders) path)) at
          ∙ ap (λ o. option_or o (name_among (drop (k + 1) folders) path)) none.0;
      none = none.1 ∙ c.loop-folder.invariant.none;
    }
