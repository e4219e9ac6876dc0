-- Structs, unions and enums.
use Rattle.std.proofs.Common.{ℕ, zero, suc, ◌≤◌, List, Option, Some, None, Bool, refl, arith}
use Rattle.idl_lex.specs.declared.kinds.keyword.Keyword.{Keyword}
use Rattle.idl_lex.specs.declared.kinds.keyword.Keyword.TheVariants as word
use Rattle.idl_lex.specs.declared.kinds.mark.Mark.TheVariants as mark
use Rattle.idl_tree.specs.Lexeme.{Lexeme}
use Rattle.idl_tree.specs.reading.Levels.{Opening, Closing, Neither}
use Rattle.idl_tree.specs.reading.ReadConstruction.{several, listed_with, all_with, discriminator_by, discriminator_at, begins_label, label_with, member_type_with, made_member, made_structure, made_case, made_union, member_with, case_with, goes_on, members_with, base_at, structure_rest_with, structure_with, cases_with, union_rest_with, union_with, enumerated, enumeration_at, construction_by, construction_with, construction_at}
use Rattle.idl_tree.specs.reading.Reading.{Reader, first}
use Rattle.idl_tree.specs.reading.Tests.{keyword_of}
use Rattle.idl_tree.specs.declared.declarations.construction.Construction.{Construction}
use Rattle.idl_tree.specs.declared.declarations.construction.Construction.TheVariants as construction
use Rattle.idl_tree.specs.declared.declarations.construction.Discriminator.{Discriminator}
use Rattle.idl_tree.specs.declared.declarations.construction.Discriminator.TheVariants as discriminator
use Rattle.idl_tree.specs.declared.declarations.construction.Label.TheVariants as label
use Rattle.idl_tree.specs.declared.declarations.construction.MemberType.TheVariants as member_type
use Rattle.idl_tree.specs.declared.declarations.data_type.TypeTree.{TypeTree}
use Rattle.idl_tree.specs.declared.expression.Expression.{Expression}
use Rattle.idl_tree.specs.declared.name.ScopedName.{ScopedName}
use Rattle.idl_tree.proofs.Levels.Alike.{Alike, nothing, done, after, valued, beside, opening, closing, looking, chosen_alike, many}
use Rattle.idl_tree.proofs.Levels.Expressions.{parted, expressions}
use Rattle.idl_tree.proofs.Levels.Tokens.{mark_passes, word_passes, identifiers, names}
use Rattle.idl_tree.proofs.Levels.Types.{discretes, declarators, types}

pub listed : (b : ℕ) {X : Type 0} {r other : Reader X} → Alike b b r other → Alike b b (listed_with r) (listed_with other)
listed b one = parted b several mark.Comma refl one

pub all : (b : ℕ) {X : Type 0} (p : Option Lexeme → Bool) {r other : Reader X} → Alike b b r other → Alike b b (all_with p r) (all_with p other)
unfolding all_with
all b p one = after b b _ _ one (λ x. valued b (several x) (many b p one))

discriminators_by : (b : ℕ) (k : Option Keyword) → Alike b b (discriminator_by k) (discriminator_by k)
discriminators_by b None = valued b discriminator.Name (names b)
discriminators_by b _ = valued b discriminator.Discrete (discretes b)

discriminators : (b : ℕ) → Alike b b discriminator_at discriminator_at
unfolding discriminator_at
discriminators b = looking b b (λ ts. keyword_of (first ts)) {f = discriminator_by} {g = discriminator_by} (discriminators_by b)

bases : (b : ℕ) → Alike b b base_at base_at
unfolding base_at
bases b = chosen_alike b b _ (beside b b (mark_passes mark.Colon Neither refl) (valued b (λ (n : ScopedName). Some n) (names b))) (done b None)

pub enumerations : (b : ℕ) → Alike (suc b) (suc b) enumeration_at enumeration_at
unfolding enumeration_at
enumerations b = beside (suc b) (suc b) (word_passes word.Enum) (after (suc b) (suc b) _ _ (identifiers (suc b)) (λ name.
    opening b (suc b) (mark_passes mark.OpenBrace Opening refl) (after b (suc b) _ _ (listed b (identifiers b)) (λ ids. closing b (suc b) (mark_passes mark.CloseBrace Closing refl) (done (suc b) (enumerated name ids))))))

pub member_types : (b : ℕ) {t t2 : Reader TypeTree} {c c2 : Reader Construction} → Alike b b t t2 → Alike b b c c2 → Alike b b (member_type_with t c) (member_type_with t2 c2)
unfolding member_type_with
member_types b types inner = chosen_alike b b _ (valued b member_type.Construction inner) (valued b member_type.Type types)

module _ (b : ℕ) {e e2 : Reader Expression} {t t2 : Reader TypeTree} {c c2 : Reader Construction} (values : Alike b b e e2) (types : Alike b b t t2) (inner : Alike b b c c2) where
  labels : Alike b b (label_with e) (label_with e2)
  unfolding label_with
  labels = chosen_alike b b _
      (beside b b (word_passes word.Case) (after b b _ _ values (λ x. beside b b (mark_passes mark.Colon Neither refl) (done b (label.Case x)))))
      (beside b b (word_passes word.Default) (beside b b (mark_passes mark.Colon Neither refl) (done b label.Default)))

  member : Alike b b (member_with e t c) (member_with e2 t2 c2)
  unfolding member_with
  member = after b b _ _ (member_types b types inner) (λ kind. after b b _ _ (listed b (declarators b values)) (λ ds. beside b b (mark_passes mark.Semicolon Neither refl) (done b (made_member kind ds))))

  case : Alike b b (case_with e t c) (case_with e2 t2 c2)
  unfolding case_with
  case = after b b _ _ (all b begins_label labels) (λ ls. after b b _ _ (member_types b types inner) (λ kind. after b b _ _ (declarators b values) (λ d.
      beside b b (mark_passes mark.Semicolon Neither refl) (done b (made_case ls kind d)))))

  pub members : Alike (suc b) (suc b) (members_with e t c) (members_with e2 t2 c2)
  unfolding members_with
  members = opening b (suc b) (mark_passes mark.OpenBrace Opening refl) (after b (suc b) _ _ (many b goes_on member) (λ ms. closing b (suc b) (mark_passes mark.CloseBrace Closing refl) (done (suc b) ms)))

  pub structure_rests : (name : List ℕ) → Alike (suc b) (suc b) (structure_rest_with e t c name) (structure_rest_with e2 t2 c2 name)
  unfolding structure_rest_with
  structure_rests name = after (suc b) (suc b) _ _ (bases (suc b)) (λ base. valued (suc b) (made_structure name base) members)

  structures : Alike (suc b) (suc b) (structure_with e t c) (structure_with e2 t2 c2)
  unfolding structure_with
  structures = beside (suc b) (suc b) (word_passes word.Struct) (after (suc b) (suc b) _ _ (identifiers (suc b)) structure_rests)

  cases : (name : List ℕ) (d : Discriminator) → Alike (suc b) (suc b) (cases_with e t c name d) (cases_with e2 t2 c2 name d)
  unfolding cases_with
  cases name d = opening b (suc b) (mark_passes mark.OpenBrace Opening refl) (after b (suc b) _ _ case (λ x. after b (suc b) _ _ (many b goes_on case) (λ xs.
      closing b (suc b) (mark_passes mark.CloseBrace Closing refl) (done (suc b) (made_union name d x xs)))))

  pub union_rests : (name : List ℕ) → Alike (suc b) (suc b) (union_rest_with e t c name) (union_rest_with e2 t2 c2 name)
  unfolding union_rest_with
  union_rests name = beside (suc b) (suc b) (word_passes word.Switch) (opening b (suc b) (mark_passes mark.OpenParenthesis Opening refl) (after b (suc b) _ _ (discriminators b) (λ d.
      closing b (suc b) (mark_passes mark.CloseParenthesis Closing refl) (cases name d))))

  unions : Alike (suc b) (suc b) (union_with e t c) (union_with e2 t2 c2)
  unfolding union_with
  unions = beside (suc b) (suc b) (word_passes word.Union) (after (suc b) (suc b) _ _ (identifiers (suc b)) union_rests)

  constructions_by : (k : Option Keyword) → Alike (suc b) (suc b) (construction_by e t c k) (construction_by e2 t2 c2 k)
  constructions_by (Some word.Struct) = valued (suc b) construction.Structure structures
  constructions_by (Some word.Union) = valued (suc b) construction.Union unions
  constructions_by _ = valued (suc b) construction.Enumeration (enumerations b)

  all_constructions : Alike (suc b) (suc b) (construction_with e t c) (construction_with e2 t2 c2)
  unfolding construction_with
  all_constructions = looking (suc b) (suc b) (λ ts. keyword_of (first ts)) {f = construction_by e t c} {g = construction_by e2 t2 c2} constructions_by

pub constructions : (b n m : ℕ) → b ≤ n → b ≤ m → Alike b b (construction_at n) (construction_at m)
unfolding construction_at
constructions zero n m below_n below_m = nothing
constructions (suc b) zero m below_n below_m = absurd (omega (arith, below_n))
constructions (suc b) (suc n) zero below_n below_m = absurd (omega (arith, below_m))
constructions (suc b) (suc n) (suc m) below_n below_m =
    let less_n : b ≤ n = omega (arith, below_n) in
    let less_m : b ≤ m = omega (arith, below_m) in
    all_constructions b (expressions b n m less_n less_m) (types b n m less_n less_m) (constructions b n m less_n less_m)
