use Rattle.std.proofs.Common.{◌≡◌, ◌<◌, ◌++◌, ◌∷◌, ◌∙◌, ℕ, List, false, eqb, sym, subst, arith, length}
use Rattle.std.specs.List.{All}
use Rattle.idl_source.proofs.DirectoryLemmas.{directory_of-append, directory_of-bare, is_directory-front, up_to-none, up_to-some}
use Rattle.std.proofs.lemmas.Bool.Decides.{nat_tests}
use Rattle.idl_source.proofs.names.name.Name.directory.Goals as goal

pub returns-in-None : goal.returns-in-None
returns-in-None c =
    let bare : c.last_part.result.1.now ≡ c.args.self.now = rw c.in-None.is at c.last_part.ensures.whole ∙ c.as_bytes.ensures.bytes in
    c.of.ensures ∙ sym (directory_of-bare c.args.self.now (subst (λ (n : List ℕ). All (λ b. eqb b 47 ≡ false) n) bare c.last_part.ensures.last))

pub returns-then-is_empty : goal.returns-then-is_empty
returns-then-is_empty c =
    let whole : c.args.self.now ≡ c.in-Some.before.now ++ 47 ∷ c.last_part.result.1.now = sym c.as_bytes.ensures.bytes ∙ rw c.in-Some.is at c.last_part.ensures.whole in
    let none : length c.in-Some.before.now ≡ 0 = grind (arith, nat_tests) in
    c.of-then-is_empty.ensures ∙ sym (directory_of-append c.args.self.now c.in-Some.before.now c.last_part.result.1.now whole c.last_part.ensures.last ∙ up_to-none c.in-Some.before.now none)

pub of-requires-in-Some : goal.of-requires-in-Some
of-requires-in-Some c =
    let whole : c.args.self.now ≡ c.in-Some.before.now ++ 47 ∷ c.last_part.result.1.now = sym c.as_bytes.ensures.bytes ∙ rw c.in-Some.is at c.last_part.ensures.whole in
    let some : 0 < length c.in-Some.before.now = grind (arith, nat_tests) in
    is_directory-front c.args.self.now c.in-Some.before.now c.last_part.result.1.now whole some c.last_part.ensures.last c.as_bytes.ensures.allowed

pub returns-else-is_empty : goal.returns-else-is_empty
returns-else-is_empty c =
    let whole : c.args.self.now ≡ c.in-Some.before.now ++ 47 ∷ c.last_part.result.1.now = sym c.as_bytes.ensures.bytes ∙ rw c.in-Some.is at c.last_part.ensures.whole in
    let some : 0 < length c.in-Some.before.now = grind (arith, nat_tests) in
    c.of-in-Some.ensures ∙ sym (directory_of-append c.args.self.now c.in-Some.before.now c.last_part.result.1.now whole c.last_part.ensures.last ∙ up_to-some c.in-Some.before.now some)
