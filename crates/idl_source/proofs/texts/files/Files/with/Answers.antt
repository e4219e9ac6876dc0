use Rattle.std.proofs.Common.{◌≡◌, ◌∙◌, ℕ, List, ap, sym}
use Rattle.std.specs.Ordering.{nat_cmp}
use Rattle.std.specs.Cmp.Lexicographic.{slice_cmp}
use Rattle.std.specs.FinMap.{insert, put}
use Rattle.idl_source.specs.declared.texts.entries.NamedFile.{NamedFile}
use Rattle.idl_source.specs.texts.Texts.{Texts}
use Rattle.idl_source.specs.texts.Entries.{entries_of}
use Rattle.idl_source.proofs.TextLemmas.{put-entries, texts, AreSorted}
use Rattle.idl_source.proofs.texts.files.Files.with.Goals as goal

-- the entries are those of before and the new one
after : (c : goal.In_ok-entries) →
    AreSorted (entries_of c.in_ok-entries.entries.items)
    × ◌≡◌ {A = Texts} (insert (texts (entries_of c.self.inside.entries.items)) c.args.name c.args.lines.items) (texts (entries_of c.in_ok-entries.entries.items))
after c =
    let es = entries_of c.self.inside.entries.items in
    put-entries es (entries_of c.in_ok-entries.entries.items) c.args.name c.args.lines.items c.self.invariant
    (c.in_ok-entries.ensures
    ∙ ap (λ (e : NamedFile). put (slice_cmp nat_cmp) e.name e.file es) c.in_ok-entry.ensures.ok
    ∙ ap (λ (f : List (List ℕ)). put (slice_cmp nat_cmp) c.args.name f es) c.in_ok-file.ensures)

pub invariant_of-result : goal.invariant_of-result
invariant_of-result c = (after c).0

pub returns : goal.returns
returns c = sym (after c).1 ∙ ap (λ (m : Texts). insert m c.args.name c.args.lines.items) c.self.view_is
