-- Kinds that are sent, and types of which nothing is told that counts on the wire.
use Rattle.std.proofs.Common.{◌≡◌, ◌∙◌, ◌≤◌, ◌∷◌, ◌||◌, [], ℕ, zero, suc, Bool, Contains, List, None, ap, arith, codes, false, if◌then◌else◌, length, map, nat_eq, refl, sym, true}
use Rattle.std.specs.List.{list_any, slice_get}
use Rattle.std.specs.Option.{option_and_then}
use Rattle.idl_changes.specs.Differences.{changed, details_differences, gone_line, id_line, parts_differences, type_differences, type_line}
use Rattle.idl_changes.specs.Listing.{alias_in, is_called, is_called_kind, is_interface, is_sent_kind, type_code_of}
use Rattle.idl_changes.specs.Partners.{is_sent, is_written}
use Rattle.idl_changes.specs.Plain.{plain}
use Rattle.idl_changes.specs.Rows.{weights_of}
use Rattle.idl_changes.specs.Spelled.{spelled}
use Rattle.idl_changes.specs.declared.change.Turn.TheVariants as turn
use Rattle.idl_changes.specs.declared.rows.Line.TheVariants as line
use Rattle.idl_changes.proofs.EntryLemmas.{interface-uncalled}
use Rattle.idl_changes.proofs.LayoutLemmas.{AreSent, wire}
use Rattle.idl_changes.proofs.WeightLemmas.{Lacks, lacks-none}
use Rattle.idl_entity.specs.Kind.{same_kind}
use Rattle.idl_entity.specs.declared.kind.Kind.{Kind}
use Rattle.idl_entity.specs.declared.kind.Kind.TheVariants as kind
use Rattle.idl_repo.specs.details.Print.{code_word}
use Rattle.idl_repo.specs.declared.details.row_tree.DeclaredType.{DeclaredType}
use Rattle.idl_repo.specs.declared.details.row_tree.RowDetails.{RowDetails}
use Rattle.idl_repo.specs.declared.details.row_tree.RowDetails.TheVariants as row
use Rattle.idl_repo.specs.declared.details.row_tree.RowTree.{RowTree}
use Rattle.idl_repo.specs.declared.details.type_code_tree.TypeCodeParts.{TypeCodeParts}
use Rattle.idl_repo.specs.declared.details.type_code_tree.TypeCodeParts.TheVariants as parts
use Rattle.idl_repo.specs.declared.details.type_tree.LayeredType.{LayeredType}

-- ---- kinds

pub sent-uncalled : (k : Kind) → is_sent_kind k ≡ true → is_called_kind k ≡ false
sent-uncalled kind.Operation is = cc
sent-uncalled kind.Attribute is = cc
sent-uncalled k is = refl

pub called-uninterface : (e : RowTree) → is_called e ≡ true → is_interface e ≡ false
called-uninterface e is = by (is_interface e) refl
  where
    by : (b : Bool) → is_interface e ≡ b → b ≡ false
    by false h = refl
    by true h = let no = sym (interface-uncalled e h) ∙ is in cc

pub interface-sent : (e : RowTree) → is_interface e ≡ true → wire (weights_of (id_line e.kind)) ≡ true
interface-sent e is = ap (λ (k : Kind). wire (weights_of (id_line k))) (same_kind e.kind kind.Interface is)

pub kind-sent : (k : Kind) → is_sent_kind k ≡ true → wire (weights_of (id_line k)) ≡ true
kind-sent k is = ap (λ (b : Bool). wire (weights_of (if b then line.SentId else line.OtherId))) is

pub gone-sent : (k : Kind) → is_sent_kind k ≡ true → wire (weights_of (gone_line k)) ≡ true
gone-sent k is = ap (λ (b : Bool). wire (weights_of (if b then line.SentGone else line.UnsentGone))) is

-- ---- types of which nothing is told that counts on the wire

module _ (old new : List RowTree) where
  pub type-sent : (part : List ℕ) (t u : LayeredType) → Lacks wire (type_differences old new part t u) → is_sent old new t u ≡ true
  unfolding type_line is_sent
  type-sent part t u all = by (is_written old new t u) refl all
    where
      line-of : (b : Bool) → Lacks wire (changed (if b then (if nat_eq (length (plain old t).layers) 0 then line.AliasedType else line.LayeredType) else line.Type) part (spelled t) (spelled u)) → b ≡ true
      line-of true h = refl
      line-of false h = absurd (lacks-none wire line.Type part (turn.Changed (spelled t) (spelled u)) refl h)

      by : (b : Bool) → is_written old new t u ≡ b → Lacks wire (if b then [] else changed (type_line old new t u) part (spelled t) (spelled u))
          → (is_written old new t u || is_written old new (plain old t) (plain new u)) ≡ true
      by true e h = ap (λ (b : Bool). b || is_written old new (plain old t) (plain new u)) e
      by false e h = line-of (is_sent old new t u) h

  pub parts-sent : (d e : DeclaredType) (p q : TypeCodeParts) → Lacks wire (parts_differences old new d e p q) → AreSent old new (alias_in p) (alias_in q)
  parts-sent d e parts.ObjectReference parts.ObjectReference all = tt
  parts-sent d e parts.LocalInterface parts.LocalInterface all = tt
  parts-sent d e parts.Native parts.Native all = tt
  parts-sent d e (parts.Structure ms) (parts.Structure ns) all = tt
  parts-sent d e (parts.Exception ms) (parts.Exception ns) all = tt
  parts-sent d e (parts.Union u) (parts.Union v) all = tt
  parts-sent d e (parts.Enumeration xs) (parts.Enumeration ys) all = tt
  parts-sent d e (parts.Alias t) (parts.Alias u) all = type-sent (codes "type") t u all
  parts-sent d e p q all = absurd (lacks-none wire line.Kind (codes "TypeCode") (turn.Changed (code_word p) (code_word q)) refl all)

  pub details-sent : (d e : RowDetails) → Lacks wire (details_differences old new d e) → AreSent old new (option_and_then alias_in (type_code_of d)) (option_and_then alias_in (type_code_of e))
  details-sent row.Nothing row.Nothing all = tt
  details-sent (row.Type d) (row.Type e) all = parts-sent d e d.code.parts e.code.parts all
  details-sent (row.Constant c) (row.Constant d) all = tt
  details-sent (row.Attribute a) (row.Attribute b) all = tt
  details-sent (row.Operation o) (row.Operation p) all = tt
  details-sent d e all = absurd (lacks-none wire line.Kind (codes "row") (turn.Changed (codes "old") (codes "new")) refl all)

-- an item that passes, seen by f, is there
pub any-contains : {X Y : Type 0} (test : X → Bool) (f : X → Y) (y : Y) → ((x : X) → test x ≡ true → f x ≡ y) → (xs : List X) → list_any test xs ≡ true → Contains (map f xs) y
any-contains test f y each [] is = cc
any-contains {X} test f y each (x ∷ xs) is = by (test x) refl (any-contains test f y each xs) is
  where
    by : (b : Bool) → test x ≡ b → (list_any test xs ≡ true → Contains (map f xs) y) → (b || list_any test xs) ≡ true → Contains (f x ∷ map f xs) y
    by true e rest h = (0, omega arith, each x e)
    by false e rest h = let later = rest h in (suc later.0, omega (arith, later.1), later.2)

pub none-past : {X : Type 0} (xs : List X) (i : ℕ) → slice_get xs i ≡ None → length xs ≤ i
none-past [] i is = omega arith
none-past (x ∷ xs) zero is = cc
none-past (x ∷ xs) (suc i) is = let rest = none-past xs i is in omega (arith, rest)
