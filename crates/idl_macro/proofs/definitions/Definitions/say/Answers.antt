use Rattle.std.proofs.Common.{◌≡◌, ℕ, List, true, sym, ap, ◌∙◌}
use Rattle.std.specs.Cmp.Lexicographic.{bytes_decides}
use Rattle.std.specs.Map.{lookup}
use Rattle.std.specs.Str.{bytes_eq}
use Rattle.idl_map.specs.Marks.{is_marked}
use Rattle.idl_map.proofs.MarkLemmas.{AreMarked-more, AreMarked-put}
use Rattle.idl_map.proofs.TableLemmas.{lookup-insert_entry}
use Rattle.idl_text.specs.Digest.{digest_of}
use Rattle.idl_macro.proofs.definitions.Definitions.say.Goals as goal

pub invariant_of-self : goal.invariant_of-self
invariant_of-self c =
    AreMarked-more c.self.inside.marks c.mark.new.self digest_of c.mark.ensures.kept (λ word. lookup (bytes_eq word) c.self.inside.entries) c.self.invariant

pub invariant_of-self-2 : goal.invariant_of-self-2
invariant_of-self-2 c =
    let entries = c.self.inside.entries in
    let word = c.in_ok-clone.field-0 in
    let same : (x y : List ℕ) → bytes_eq x y ≡ true → x ≡ y = λ x y. (bytes_decides x y).0 in
    let digest = ap digest_of (c.in_ok-clone.ensures.cases ∙ sym c.as_bytes.ensures) ∙ sym c.digest_of.ensures in
    AreMarked-put c.self.inside.marks c.mark.new.self digest_of c.mark.ensures.kept (λ q. lookup (bytes_eq q) entries) bytes_eq same (λ q. lookup (bytes_eq q) c.insert.new.self) word c.args.body
    (ap (is_marked c.mark.new.self) digest ∙ c.mark.ensures.marked)
    (λ q. ap (lookup (bytes_eq q)) c.in_ok-insert.ensures.entries ∙ lookup-insert_entry bytes_eq same word c.args.body q entries)
    c.self.invariant
