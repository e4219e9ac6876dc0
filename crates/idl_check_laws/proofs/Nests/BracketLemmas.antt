-- Sites are bracketed part by part.
use Rattle.std.proofs.Common.{◌≡◌, ◌∙◌, true, List, [], ◌∷◌, ◌++◌, append_assoc, flat_map, refl, sym, ap}
use Rattle.std.proofs.lemmas.Grind.{flat_map-append}
use Rattle.std.proofs.lemmas.List.{append-nil, map-append}
use Rattle.std.proofs.lemmas.List.Elements.{All-append, All-cons, All-nil}
use Rattle.idl_check.specs.walk.Sections.{AreBracketed, IsFormed, Single, Whole, is_single, section_sites}
use Rattle.idl_parts.specs.ExpressionParts.{expression_parts, value_parts}
use Rattle.idl_parts.specs.Item.{Item, item_of, items}
use Rattle.idl_parts.specs.Part.{Part, Parts, ValueEnds, Part as item}
use Rattle.idl_parts.specs.declared.part.Purpose.{Purpose}
use Rattle.idl_tree.specs.Lexeme.{Lexemes}
use Rattle.idl_tree.specs.declared.expression.Expression.{Expression}

pub bracketed-none : AreBracketed []
bracketed-none = record { sections = []; formed = All-nil IsFormed; are = refl }

pub bracketed-follow : (p q : Parts) → AreBracketed (items p) → AreBracketed (items q) → AreBracketed (items (p ++ q))
bracketed-follow p q a b =
    let s = a.sections in
    let t = b.sections in
    record {
      sections = s ++ t;
      formed = All-append IsFormed s t a.formed b.formed;
      are =
          map-append item_of p q ∙ ap (λ (xs : List Item). xs ++ items q) a.are ∙ ap (λ (xs : List Item). flat_map section_sites s ++ xs) b.are
          ∙ sym (flat_map-append section_sites s t);
    }

pub bracketed-before : (x : Part Lexemes) (p : Parts) → is_single (item_of x) ≡ true → AreBracketed (items p) → AreBracketed (items (x ∷ p))
bracketed-before x p h b = record {
  sections = Single (item_of x) ∷ b.sections;
  formed = All-cons IsFormed (Single (item_of x)) b.sections h b.formed;
  are = ap (λ (xs : List Item). item_of x ∷ xs) b.are;
}

pub bracketed-value : (way : Purpose) (e : Expression) → AreBracketed (items (value_parts way e))
bracketed-value way e = record {
  sections = Whole way e ∷ [];
  formed = All-cons IsFormed (Whole way e) [] tt (All-nil IsFormed);
  are = sym (append-nil (items (value_parts way e)));
}

-- ---- the sites of an expression

-- behind its beginning
pub value-sites : (way : Purpose) (e : Expression) (sites : List Item) → items (value_parts way e) ++ sites ≡ item.ValueBegins ∷ (items (expression_parts e) ++ item.ValueEnds way e ∷ sites)
value-sites way e sites =
    ap (λ (xs : List Item). item.ValueBegins ∷ (xs ++ sites)) (map-append item_of (expression_parts e) (ValueEnds way e ∷ []))
    ∙ ap (λ (xs : List Item). item.ValueBegins ∷ xs) (append_assoc (items (expression_parts e)) (item.ValueEnds way e ∷ []) sites)
