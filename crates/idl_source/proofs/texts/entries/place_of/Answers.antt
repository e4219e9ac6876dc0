use Rattle.std.proofs.Common.{rules}
use Rattle.std.specs.Global.{Global}
use Rattle.std.specs.Ordering.{nat_cmp}
use Rattle.std.specs.Cmp.Lexicographic.{slice_cmp}
use Rattle.std.specs.declared.rc.Rc.{Rc}
use Rattle.std.proofs.lemmas.Fn.{always_returns_same}
use Rattle.idl_source.specs.declared.texts.entries.NamedFile.{NamedFile}
use Rattle.idl_source.proofs.EntryLemmas.{searched}
use Rattle.idl_source.proofs.texts.entries.place_of.Goals as goal

-- the closure compares an entry's name
pub returns : goal.returns
returns c =
    let facts = c.binary_search_by.ensures in
    let by_name = facts.position (λ (e : Rc NamedFile Global). slice_cmp nat_cmp e.value.name c.args.name.now) (always_returns_same _ _ _ (λ a r g called. search rules)) in
    let sides = searched c.args.entries.now c.args.name.now _ c.requires facts.bound by_name in
    record { found = sides.0; absent = sides.1 }
