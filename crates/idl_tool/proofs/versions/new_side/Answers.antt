use Rattle.std.proofs.Common.{Bor, ◌≡◌, ◌∙◌, ◌++◌, ℕ, List, Option, ap, ap₂, map, subst}
use Rattle.std.proofs.lemmas.List.{map-append}
use Rattle.std.proofs.lemmas.Result.{IfOk-weaker}
use Rattle.clap.specs.Words.{found_of, rows_of}
use Rattle.idl_tool.specs.Words.{AreSideOf, below_in, files_in, new_directories, new_files}
use Rattle.idl_tool.proofs.versions.new_side.Goals as goal

pub returns : goal.returns
returns c =
    let rows = rows_of (found_of c.args.matches.now) in
    let now = λ (w : Bor (List ℕ)). w.now in
    let files : map now c.in_ok-files.files.items ≡ new_files (below_in rows) (files_in rows) =
    c.in_ok-files.ensures ∙ ap₂ (λ (o : Option (List ℕ)) (fs : List (List ℕ)). new_files o fs) c.below_of.ensures (ap (map now) c.deref.ensures.value ∙ c.in_ok-given.ensures)
    in
    let directories : map now c.extend_from_slice.new.self.items ≡ new_directories rows =
    ap (map now) c.in_ok-extend_from_slice.ensures.items ∙ map-append now c.in_ok-directories.directories.items c.deref-2.result.now
    ∙ ap₂ (λ (a b : List (List ℕ)). a ++ b) c.in_ok-directories.ensures (ap (map now) c.deref-2.ensures.value ∙ c.in_ok-shared.ensures)
    in
    IfOk-weaker c.side_of.result _ _
    (λ options is. subst (λ (ds : List (List ℕ)). AreSideOf (new_files (below_in rows) (files_in rows)) ds rows options) directories
    (subst (λ (fs : List (List ℕ)). AreSideOf fs (map now c.extend_from_slice.new.self.items) rows options) files is)) c.side_of.ensures
