-- The spelling of structs, unions and enums by those of their parts.
use Rattle.std.proofs.Common.{◌≡◌, ◌∙◌, ℕ, List, Option, [], ◌∷◌, ◌++◌, sym, ap, arith, length, subst, ◌<◌}
use Rattle.std.proofs.lemmas.List.{length-append}
use Rattle.idl_lex.specs.declared.kinds.keyword.Keyword.TheVariants as word
use Rattle.idl_lex.specs.declared.kinds.mark.Mark.TheVariants as mark
use Rattle.idl_tree.specs.Construction.{spell_base, spell_enumeration, spell_discriminator, spell_label, construction_step, member_type_step, case_step, member_step, structure_step, union_step, spell_construction, spell_member_type, spell_case, spell_member, spell_structure, spell_union}
use Rattle.idl_tree.specs.DataType.{spell_type, spell_declarator}
use Rattle.idl_tree.specs.Lexeme.{Lexemes, Word, Punctuation, Identifier, Lexeme}
use Rattle.idl_tree.specs.reading.ReadConstruction.{made_member, made_structure, made_case, made_union}
use Rattle.idl_tree.specs.Several.{spell_listed, spell_all}
use Rattle.idl_tree.specs.declared.declarations.construction.Case.{Case}
use Rattle.idl_tree.specs.declared.declarations.construction.Construction.{Construction, fold-Construction}
use Rattle.idl_tree.specs.declared.declarations.construction.Construction.TheFolds.{fold-MemberType, fold-roll-Construction, fold-roll-MemberType, fold-roll-Case, fold-roll-Member, fold-roll-Structure, fold-roll-Union, fold_out-Case, fold_out-Member}
use Rattle.idl_tree.specs.declared.declarations.construction.Construction.TheOpen.{Construction-F, MemberType-F, Member-F, Case-F}
use Rattle.idl_tree.specs.declared.declarations.construction.Construction.TheVariants.{rolls-Structure, rolls-Union, rolls-Enumeration}
use Rattle.idl_tree.specs.declared.declarations.construction.Construction.TheVariants as construction
use Rattle.idl_tree.specs.declared.declarations.construction.Discriminator.{Discriminator}
use Rattle.idl_tree.specs.declared.declarations.construction.Enumeration.{Enumeration}
use Rattle.idl_tree.specs.declared.declarations.construction.Label.{Label}
use Rattle.idl_tree.specs.declared.declarations.construction.Member.{Member}
use Rattle.idl_tree.specs.declared.declarations.construction.MemberType.{MemberType}
use Rattle.idl_tree.specs.declared.declarations.construction.MemberType.TheVariants.{rolls-Type, rolls-Construction}
use Rattle.idl_tree.specs.declared.declarations.construction.MemberType.TheVariants as member_type
use Rattle.idl_tree.specs.declared.declarations.construction.Structure.{Structure}
use Rattle.idl_tree.specs.declared.declarations.construction.Union.{Union}
use Rattle.idl_tree.specs.declared.declarations.data_type.TypeTree.{TypeTree}
use Rattle.idl_tree.specs.declared.declarations.declarator.Declarator.{Declarator}
use Rattle.idl_tree.specs.declared.name.ScopedName.{ScopedName}
use Rattle.idl_tree.specs.declared.several.Several.{Several}
use Rattle.idl_tree.proofs.Many.{many_spell}
use Rattle.idl_tree.proofs.SpellLemmas.{flat_map-map}

pub spell_member_type-type : (t : TypeTree) → spell_member_type (member_type.Type t) ≡ spell_type t
unfolding spell_member_type
spell_member_type-type t = ap (fold-MemberType Lexemes Lexemes Lexemes Lexemes Lexemes Lexemes construction_step member_type_step case_step member_step structure_step union_step) (sym (rolls-Type t))
    ∙ fold-roll-MemberType Lexemes Lexemes Lexemes Lexemes Lexemes Lexemes construction_step member_type_step case_step member_step structure_step union_step (MemberType-F.Type t)

pub spell_member_type-construction : (c : Construction) → spell_member_type (member_type.Construction c) ≡ spell_construction c
unfolding spell_member_type spell_construction
spell_member_type-construction c = ap (fold-MemberType Lexemes Lexemes Lexemes Lexemes Lexemes Lexemes construction_step member_type_step case_step member_step structure_step union_step) (sym (rolls-Construction c))
    ∙ fold-roll-MemberType Lexemes Lexemes Lexemes Lexemes Lexemes Lexemes construction_step member_type_step case_step member_step structure_step union_step (MemberType-F.Construction c)

pub spell_construction-structure : (s : Structure) → spell_construction (construction.Structure s) ≡ spell_structure s
unfolding spell_construction spell_structure
spell_construction-structure s = ap (fold-Construction Lexemes Lexemes Lexemes Lexemes Lexemes Lexemes construction_step member_type_step case_step member_step structure_step union_step) (sym (rolls-Structure s))
    ∙ fold-roll-Construction Lexemes Lexemes Lexemes Lexemes Lexemes Lexemes construction_step member_type_step case_step member_step structure_step union_step (Construction-F.Structure s)

pub spell_construction-union : (u : Union) → spell_construction (construction.Union u) ≡ spell_union u
unfolding spell_construction spell_union
spell_construction-union u = ap (fold-Construction Lexemes Lexemes Lexemes Lexemes Lexemes Lexemes construction_step member_type_step case_step member_step structure_step union_step) (sym (rolls-Union u))
    ∙ fold-roll-Construction Lexemes Lexemes Lexemes Lexemes Lexemes Lexemes construction_step member_type_step case_step member_step structure_step union_step (Construction-F.Union u)

pub spell_construction-enumeration : (e : Enumeration) → spell_construction (construction.Enumeration e) ≡ spell_enumeration e
unfolding spell_construction
spell_construction-enumeration e = ap (fold-Construction Lexemes Lexemes Lexemes Lexemes Lexemes Lexemes construction_step member_type_step case_step member_step structure_step union_step) (sym (rolls-Enumeration e))
    ∙ fold-roll-Construction Lexemes Lexemes Lexemes Lexemes Lexemes Lexemes construction_step member_type_step case_step member_step structure_step union_step (Construction-F.Enumeration e)

pub spell_member-made : (kind : MemberType) (ds : Several Declarator) → spell_member (made_member kind ds) ≡ spell_member_type kind ++ (spell_listed spell_declarator ds ++ Punctuation mark.Semicolon ∷ [])
unfolding spell_member spell_member_type
spell_member-made kind ds = fold-roll-Member Lexemes Lexemes Lexemes Lexemes Lexemes Lexemes construction_step member_type_step case_step member_step structure_step union_step (record { kind = kind; declarators = ds })

-- "{" member* "}"
abbrev pub spell_members : List Member → Lexemes
spell_members ms = Punctuation mark.OpenBrace ∷ (many_spell spell_member ms ++ Punctuation mark.CloseBrace ∷ [])

pub spell_structure-made : (name : List ℕ) (base : Option ScopedName) (ms : List Member)
    → spell_structure (made_structure name base ms) ≡ Word word.Struct ∷ Identifier name ∷ (spell_base base ++ spell_members ms)
unfolding spell_structure spell_member
spell_structure-made name base ms =
    fold-roll-Structure Lexemes Lexemes Lexemes Lexemes Lexemes Lexemes construction_step member_type_step case_step member_step structure_step union_step (record { name = name; base = base; members = ms })
    ∙ ap (λ (w : Lexemes). Word word.Struct ∷ Identifier name ∷ (spell_base base ++ (Punctuation mark.OpenBrace ∷ (w ++ Punctuation mark.CloseBrace ∷ [])))) (flat_map-map (λ w. w) _ ms)

pub spell_case-made : (labels : Several Label) (kind : MemberType) (d : Declarator) → spell_case (made_case labels kind d) ≡ spell_all spell_label labels ++ (spell_member_type kind ++ (spell_declarator d ++ Punctuation mark.Semicolon ∷ []))
unfolding spell_case spell_member_type
spell_case-made labels kind d = fold-roll-Case Lexemes Lexemes Lexemes Lexemes Lexemes Lexemes construction_step member_type_step case_step member_step structure_step union_step (record { labels = labels; kind = kind; declarator = d })

pub spell_union-made : (name : List ℕ) (d : Discriminator) (c : Case) (cs : List Case)
    → spell_union (made_union name d c cs) ≡ Word word.Union ∷ Identifier name ∷ Word word.Switch ∷ Punctuation mark.OpenParenthesis ∷ (spell_discriminator d ++ (Punctuation mark.CloseParenthesis ∷ Punctuation mark.OpenBrace ∷ (spell_case c ++ (many_spell spell_case cs ++ Punctuation mark.CloseBrace ∷ []))))
unfolding spell_union spell_case
spell_union-made name d c cs =
    fold-roll-Union Lexemes Lexemes Lexemes Lexemes Lexemes Lexemes construction_step member_type_step case_step member_step structure_step union_step (record { name = name; discriminator = d; first = c; rest = cs })
    ∙ ap (λ (w : Lexemes). Word word.Union ∷ Identifier name ∷ Word word.Switch ∷ Punctuation mark.OpenParenthesis ∷ (spell_discriminator d ++ (Punctuation mark.CloseParenthesis ∷ Punctuation mark.OpenBrace ∷ (spell_case c ++ (w ++ Punctuation mark.CloseBrace ∷ []))))) (flat_map-map (λ w. w) _ cs)

-- ---- none is without tokens

ends_some : (a b : Lexemes) (t : Lexeme) → 0 < length (a ++ (b ++ t ∷ []))
ends_some a b t = omega (arith, length-append a (b ++ t ∷ []), length-append b (t ∷ []))

member_step_some : (x : Member-F Lexemes Lexemes Lexemes Lexemes Lexemes Lexemes) → 0 < length (member_step x)
member_step_some x = ends_some x.kind (spell_listed spell_declarator x.declarators) (Punctuation mark.Semicolon)

case_step_some : (x : Case-F Lexemes Lexemes Lexemes Lexemes Lexemes Lexemes) → 0 < length (case_step x)
case_step_some x =
    omega (arith, length-append (spell_all spell_label x.labels) (x.kind ++ (spell_declarator x.declarator ++ Punctuation mark.Semicolon ∷ [])), ends_some x.kind (spell_declarator x.declarator) (Punctuation mark.Semicolon))

pub member_some : (m : Member) → 0 < length (spell_member m)
unfolding spell_member
member_some m = subst (λ (w : Lexemes). 0 < length w) (sym (fold_out-Member Lexemes Lexemes Lexemes Lexemes Lexemes Lexemes construction_step member_type_step case_step member_step structure_step union_step m)) (member_step_some _)

pub case_some : (c : Case) → 0 < length (spell_case c)
unfolding spell_case
case_some c = subst (λ (w : Lexemes). 0 < length w) (sym (fold_out-Case Lexemes Lexemes Lexemes Lexemes Lexemes Lexemes construction_step member_type_step case_step member_step structure_step union_step c)) (case_step_some _)
