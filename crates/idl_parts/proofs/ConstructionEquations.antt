-- The parts of structs, unions and enums by those of their members.
use Rattle.std.proofs.Common.{◌≡◌, ◌∙◌, ℕ, List, Option, [], ◌∷◌, ◌++◌, flat_map, ap, sym}
use Rattle.std.proofs.lemmas.List.Folds.{flat_map-map}
use Rattle.idl_lex.specs.declared.kinds.keyword.Keyword.TheVariants as word
use Rattle.idl_lex.specs.declared.kinds.mark.Mark.TheVariants as mark
use Rattle.idl_parts.specs.ConstructionParts.{base_parts, case_parts, case_step, construction_parts, construction_step, discriminator_parts, enumeration_parts, label_parts, member_parts, member_step, member_type_parts, member_type_step, structure_parts, structure_step, union_parts, union_step}
use Rattle.idl_parts.specs.Part.{Parts, Plain, Declares, ScopeBegins, ScopeEnds, all_parts, if_some, keyword_part, listed, punctuation}
use Rattle.idl_parts.specs.TypeParts.{declarator_parts, type_parts}
use Rattle.idl_parts.specs.declared.part.Declaration.TheVariants as declaration
use Rattle.idl_tree.specs.Lexeme.{Word, Punctuation}
use Rattle.idl_tree.specs.declared.declarations.construction.Case.{Case, out-Case}
use Rattle.idl_tree.specs.declared.declarations.construction.Construction.{Construction, fold-Construction}
use Rattle.idl_tree.specs.declared.declarations.construction.Construction.TheFolds.{fold-MemberType, fold-roll-Construction, fold-roll-MemberType, fold_out-Case, fold_out-Member, fold_out-Structure, fold_out-Union, fold-roll-Case, fold-roll-Member, fold-roll-Structure, fold-roll-Union}
use Rattle.idl_tree.specs.declared.declarations.construction.Construction.TheOpen.{Construction-F, MemberType-F}
use Rattle.idl_tree.specs.declared.declarations.construction.Construction.TheVariants.{rolls-Structure, rolls-Union, rolls-Enumeration}
use Rattle.idl_tree.specs.declared.declarations.construction.Construction.TheVariants as construction
use Rattle.idl_tree.specs.declared.declarations.construction.Discriminator.{Discriminator}
use Rattle.idl_tree.specs.declared.declarations.construction.Enumeration.{Enumeration}
use Rattle.idl_tree.specs.declared.declarations.construction.Label.{Label}
use Rattle.idl_tree.specs.declared.declarations.construction.Member.{Member, out-Member}
use Rattle.idl_tree.specs.declared.declarations.construction.MemberType.{MemberType}
use Rattle.idl_tree.specs.declared.declarations.construction.MemberType.TheVariants.{rolls-Type, rolls-Construction}
use Rattle.idl_tree.specs.declared.declarations.construction.MemberType.TheVariants as member_type
use Rattle.idl_tree.specs.declared.declarations.construction.Structure.{Structure, out-Structure}
use Rattle.idl_tree.specs.declared.declarations.construction.Union.{Union, out-Union}
use Rattle.idl_tree.specs.declared.declarations.data_type.TypeTree.{TypeTree}
use Rattle.idl_tree.specs.declared.declarations.declarator.Declarator.{Declarator}
use Rattle.idl_tree.specs.declared.name.ScopedName.{ScopedName}
use Rattle.idl_tree.specs.declared.several.Several.{Several}
use Rattle.idl_tree.specs.reading.ReadConstruction.{made_case, made_member, made_structure, made_union}

pub member_type_parts-type : (t : TypeTree) → member_type_parts (member_type.Type t) ≡ type_parts t
unfolding member_type_parts
member_type_parts-type t =
    ap (fold-MemberType Parts Parts Parts Parts Parts Parts construction_step member_type_step case_step member_step structure_step union_step) (sym (rolls-Type t))
    ∙ fold-roll-MemberType Parts Parts Parts Parts Parts Parts construction_step member_type_step case_step member_step structure_step union_step (MemberType-F.Type t)

pub member_type_parts-construction : (c : Construction) → member_type_parts (member_type.Construction c) ≡ construction_parts c
unfolding member_type_parts construction_parts
member_type_parts-construction c =
    ap (fold-MemberType Parts Parts Parts Parts Parts Parts construction_step member_type_step case_step member_step structure_step union_step) (sym (rolls-Construction c))
    ∙ fold-roll-MemberType Parts Parts Parts Parts Parts Parts construction_step member_type_step case_step member_step structure_step union_step (MemberType-F.Construction c)

pub construction_parts-structure : (s : Structure) → construction_parts (construction.Structure s) ≡ structure_parts s
unfolding construction_parts structure_parts
construction_parts-structure s =
    ap (fold-Construction Parts Parts Parts Parts Parts Parts construction_step member_type_step case_step member_step structure_step union_step) (sym (rolls-Structure s))
    ∙ fold-roll-Construction Parts Parts Parts Parts Parts Parts construction_step member_type_step case_step member_step structure_step union_step (Construction-F.Structure s)

pub construction_parts-union : (u : Union) → construction_parts (construction.Union u) ≡ union_parts u
unfolding construction_parts union_parts
construction_parts-union u =
    ap (fold-Construction Parts Parts Parts Parts Parts Parts construction_step member_type_step case_step member_step structure_step union_step) (sym (rolls-Union u))
    ∙ fold-roll-Construction Parts Parts Parts Parts Parts Parts construction_step member_type_step case_step member_step structure_step union_step (Construction-F.Union u)

pub construction_parts-enumeration : (e : Enumeration) → construction_parts (construction.Enumeration e) ≡ enumeration_parts e
unfolding construction_parts
construction_parts-enumeration e =
    ap (fold-Construction Parts Parts Parts Parts Parts Parts construction_step member_type_step case_step member_step structure_step union_step) (sym (rolls-Enumeration e))
    ∙ fold-roll-Construction Parts Parts Parts Parts Parts Parts construction_step member_type_step case_step member_step structure_step union_step (Construction-F.Enumeration e)

pub member_parts-out : (m : Member)
    → member_parts m ≡ member_type_parts (out-Member m).kind ++ (listed (declarator_parts declaration.Member) (out-Member m).declarators ++ punctuation mark.Semicolon ∷ [])
unfolding member_parts member_type_parts
member_parts-out m = fold_out-Member Parts Parts Parts Parts Parts Parts construction_step member_type_step case_step member_step structure_step union_step m

pub case_parts-out : (c : Case)
    → case_parts c ≡ all_parts label_parts (out-Case c).labels ++ (member_type_parts (out-Case c).kind ++ (declarator_parts declaration.Member (out-Case c).declarator ++ punctuation mark.Semicolon ∷ []))
unfolding case_parts member_type_parts
case_parts-out c = fold_out-Case Parts Parts Parts Parts Parts Parts construction_step member_type_step case_step member_step structure_step union_step c

pub structure_parts-out : (s : Structure)
    → structure_parts s
    ≡ keyword_part word.Struct ∷ Declares declaration.Structure (out-Structure s).name
    ∷ (if_some base_parts (out-Structure s).base
    ++ punctuation mark.OpenBrace ∷ ScopeBegins declaration.Structure (out-Structure s).name
    ∷ (flat_map member_parts (out-Structure s).members ++ ScopeEnds ∷ punctuation mark.CloseBrace ∷ []))
unfolding structure_parts member_parts
structure_parts-out s =
    fold_out-Structure Parts Parts Parts Parts Parts Parts construction_step member_type_step case_step member_step structure_step union_step s
    ∙ ap
    (λ (w : Parts).
    keyword_part word.Struct ∷ Declares declaration.Structure (out-Structure s).name
    ∷ (if_some base_parts (out-Structure s).base
    ++ punctuation mark.OpenBrace ∷ ScopeBegins declaration.Structure (out-Structure s).name
    ∷ (w ++ ScopeEnds ∷ punctuation mark.CloseBrace ∷ [])))
    (flat_map-map (λ m. m) _ (out-Structure s).members)

pub union_parts-out : (u : Union)
    → union_parts u
    ≡ keyword_part word.Union ∷ Declares declaration.Union (out-Union u).name ∷ Plain (Word word.Switch ∷ Punctuation mark.OpenParenthesis ∷ [])
    ∷ (discriminator_parts (out-Union u).discriminator
    ++ Plain (Punctuation mark.CloseParenthesis ∷ Punctuation mark.OpenBrace ∷ []) ∷ ScopeBegins declaration.Union (out-Union u).name
    ∷ (case_parts (out-Union u).first ++ (flat_map case_parts (out-Union u).rest ++ ScopeEnds ∷ punctuation mark.CloseBrace ∷ [])))
unfolding union_parts case_parts
union_parts-out u =
    fold_out-Union Parts Parts Parts Parts Parts Parts construction_step member_type_step case_step member_step structure_step union_step u
    ∙ ap
    (λ (w : Parts).
    keyword_part word.Union ∷ Declares declaration.Union (out-Union u).name ∷ Plain (Word word.Switch ∷ Punctuation mark.OpenParenthesis ∷ [])
    ∷ (discriminator_parts (out-Union u).discriminator
    ++ Plain (Punctuation mark.CloseParenthesis ∷ Punctuation mark.OpenBrace ∷ []) ∷ ScopeBegins declaration.Union (out-Union u).name
    ∷ (case_parts (out-Union u).first ++ (w ++ ScopeEnds ∷ punctuation mark.CloseBrace ∷ []))))
    (flat_map-map (λ c. c) _ (out-Union u).rest)

-- what stands before the base and the members of a struct, and before the discriminator and the cases of a union
abbrev pub structure_opening : List ℕ → Parts
structure_opening name = keyword_part word.Struct ∷ Declares declaration.Structure name ∷ []

abbrev pub structure_brace : List ℕ → Parts
structure_brace name = punctuation mark.OpenBrace ∷ ScopeBegins declaration.Structure name ∷ []

abbrev pub union_opening : List ℕ → Parts
union_opening name = keyword_part word.Union ∷ Declares declaration.Union name ∷ Plain (Word word.Switch ∷ Punctuation mark.OpenParenthesis ∷ []) ∷ []

abbrev pub union_brace : List ℕ → Parts
union_brace name = Plain (Punctuation mark.CloseParenthesis ∷ Punctuation mark.OpenBrace ∷ []) ∷ ScopeBegins declaration.Union name ∷ []

pub member_parts-made : (kind : MemberType) (ds : Several Declarator) → member_parts (made_member kind ds) ≡ member_type_parts kind ++ (listed (declarator_parts declaration.Member) ds ++ punctuation mark.Semicolon ∷ [])
unfolding member_parts member_type_parts
member_parts-made kind ds = fold-roll-Member Parts Parts Parts Parts Parts Parts construction_step member_type_step case_step member_step structure_step union_step (record { kind = kind; declarators = ds })

pub case_parts-made : (labels : Several Label) (kind : MemberType) (d : Declarator)
    → case_parts (made_case labels kind d) ≡ all_parts label_parts labels ++ (member_type_parts kind ++ (declarator_parts declaration.Member d ++ punctuation mark.Semicolon ∷ []))
unfolding case_parts member_type_parts
case_parts-made labels kind d = fold-roll-Case Parts Parts Parts Parts Parts Parts construction_step member_type_step case_step member_step structure_step union_step (record { labels = labels; kind = kind; declarator = d })

pub structure_parts-made : (name : List ℕ) (base : Option ScopedName) (ms : List Member)
    → structure_parts (made_structure name base ms)
    ≡ structure_opening name ++ (if_some base_parts base ++ (structure_brace name ++ (flat_map member_parts ms ++ ScopeEnds ∷ punctuation mark.CloseBrace ∷ [])))
unfolding structure_parts member_parts
structure_parts-made name base ms =
    fold-roll-Structure Parts Parts Parts Parts Parts Parts construction_step member_type_step case_step member_step structure_step union_step (record { name = name; base = base; members = ms })
    ∙ ap (λ (w : Parts). structure_opening name ++ (if_some base_parts base ++ (structure_brace name ++ (w ++ ScopeEnds ∷ punctuation mark.CloseBrace ∷ [])))) (flat_map-map (λ m. m) _ ms)

pub union_parts-made : (name : List ℕ) (d : Discriminator) (c : Case) (cs : List Case)
    → union_parts (made_union name d c cs) ≡ union_opening name ++ (discriminator_parts d ++ (union_brace name ++ (case_parts c ++ (flat_map case_parts cs ++ ScopeEnds ∷ punctuation mark.CloseBrace ∷ []))))
unfolding union_parts case_parts
union_parts-made name d c cs =
    fold-roll-Union Parts Parts Parts Parts Parts Parts construction_step member_type_step case_step member_step structure_step union_step (record { name = name; discriminator = d; first = c; rest = cs })
    ∙ ap (λ (w : Parts). union_opening name ++ (discriminator_parts d ++ (union_brace name ++ (case_parts c ++ (w ++ ScopeEnds ∷ punctuation mark.CloseBrace ∷ []))))) (flat_map-map (λ c. c) _ cs)
