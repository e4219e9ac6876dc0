use Rattle.std.proofs.Common.{◌≡◌, ◌∙◌, List, ap, ap₂, if◌then◌else◌, map}
use Rattle.std.proofs.lemmas.Result.{IfOk-weaker}
use Rattle.idl_json.specs.Listed.{LocatedRow, row_of}
use Rattle.idl_loader.specs.declared.status.Status.TheVariants.{Faulty, Sound}
use Rattle.idl_tool.specs.Compared.{all_rows, are_failing, change_lines, changes_of, listed_in, seen}
use Rattle.idl_tool.proofs.diff.changes_text.Goals as goal

pub returns-clause-lines : goal.returns-clause-lines
returns-clause-lines c =
    let old = c.args.old.now in
    let new = c.args.new.now in
    let was : map row_of c.deref-3.result.now ≡ listed_in (seen old) =
    ap (map row_of) c.deref-3.ensures.value ∙ c.in_ok-was.ensures ∙ ap (all_rows old.sources) c.as_slice-3.ensures.keys
    in
    let is : map row_of c.deref-4.result.now ≡ listed_in (seen new) =
    ap (map row_of) c.deref-4.ensures.value ∙ c.in_ok-is.ensures ∙ ap (all_rows new.sources) c.as_slice-4.ensures.keys
    in
    IfOk-weaker c.told_between.result _ _
    (λ told lines. lines ∙ ap₂ (λ (a b : List LocatedRow). change_lines c.args.diff.now.is_json c.args.diff.now.fails a b (changes_of a b)) was is) c.told_between.ensures.lines

pub returns-clause-status : goal.returns-clause-status
returns-clause-status c =
    let old = c.args.old.now in
    let new = c.args.new.now in
    let was : map row_of c.deref-3.result.now ≡ listed_in (seen old) =
    ap (map row_of) c.deref-3.ensures.value ∙ c.in_ok-was.ensures ∙ ap (all_rows old.sources) c.as_slice-3.ensures.keys
    in
    let is : map row_of c.deref-4.result.now ≡ listed_in (seen new) =
    ap (map row_of) c.deref-4.ensures.value ∙ c.in_ok-is.ensures ∙ ap (all_rows new.sources) c.as_slice-4.ensures.keys
    in
    IfOk-weaker c.told_between.result _ _
    (λ told ending. ending ∙ ap₂ (λ (a b : List LocatedRow). if are_failing c.args.diff.now.fails (changes_of a b) then Faulty else Sound) was is) c.told_between.ensures.status
