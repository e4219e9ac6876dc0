use Rattle.std.proofs.Common.{Bor, ◌≡◌, ◌∙◌, ◌++◌, ℕ, List, Option, ap, ap₂, map, subst}
use Rattle.std.proofs.lemmas.List.{map-append}
use Rattle.std.proofs.lemmas.Result.{IfOk-weaker}
use Rattle.clap.specs.Words.{found_of, rows_of}
use Rattle.idl_tool.specs.Words.{AreSideOf, all_below, below_in, files_in, old_directories, old_files}
use Rattle.idl_tool.proofs.versions.old_side.Goals as goal

pub returns : goal.returns
returns c =
    let rows = rows_of (found_of c.args.matches.now) in
    let now = λ (w : Bor (List ℕ)). w.now in
    let files : map now c.in_ok-files.files.items ≡ old_files (below_in rows) (files_in rows) =
    c.in_ok-files.ensures ∙ ap₂ (λ (o : Option (List ℕ)) (fs : List (List ℕ)). old_files o fs) c.below_of-below.ensures (ap (map now) c.deref.ensures.value ∙ c.in_ok-given.ensures)
    in
    let others : map now c.in_ok-others.others.items ≡ all_below (below_in rows) (map now c.in_ok-shared.shared.items) =
    c.in_ok-others.ensures ∙ ap₂ (λ (o : Option (List ℕ)) (fs : List (List ℕ)). all_below o fs) c.below_of-below.ensures (ap (map now) c.deref-2.ensures.value)
    in
    let directories : map now c.extend_from_slice.new.self.items ≡ old_directories rows =
    ap (map now) c.in_ok-extend_from_slice.ensures.items ∙ map-append now c.in_ok-directories.directories.items c.deref-3.result.now
    ∙ ap₂ (λ (a b : List (List ℕ)). a ++ b) c.in_ok-directories.ensures (ap (map now) c.deref-3.ensures.value ∙ others ∙ ap (all_below (below_in rows)) c.in_ok-shared.ensures)
    in
    IfOk-weaker c.side_of.result _ _
    (λ options is. subst (λ (ds : List (List ℕ)). AreSideOf (old_files (below_in rows) (files_in rows)) ds rows options) directories
    (subst (λ (fs : List (List ℕ)). AreSideOf fs (map now c.extend_from_slice.new.self.items) rows options) files is)) c.side_of.ensures
