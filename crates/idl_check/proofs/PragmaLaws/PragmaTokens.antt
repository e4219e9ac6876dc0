-- How many tokens a pragma is.
use Rattle.std.proofs.Common.{◌≡◌, ℕ, suc, ◌+◌, Bool, true, false, cond, List, [], ◌∷◌, length, Option, None, Some, refl, sym, ap, subst, arith}
use Rattle.std.proofs.lemmas.Option.{same_Some}
use Rattle.std.specs.Prelude.{◌*◌, codes}
use Rattle.std.specs.Option.{option_map}
use Rattle.std.specs.Str.{bytes_eq}
use Rattle.idl_tree.specs.NameParts.{last_at}
use Rattle.idl_lex.specs.kinds.Kind.{kind_of}
use Rattle.idl_lex.specs.tokens.Tokens.{Token}
use Rattle.idl_tree.specs.Pragma.{further_parts, id_of, is_separator, name_before, name_from, named, only, part_of, pragma_of, prefix_of, text_of, version_of, versioned, with_part}
use Rattle.idl_tree.specs.declared.name.ScopedName.{ScopedName}
use Rattle.idl_tree.specs.declared.pragma.Pragma.{Pragma}
use Rattle.idl_tree.specs.declared.pragma.Pragma.TheVariants as pragma

-- the number of a pragma's last token
abbrev pub end_of : Pragma → ℕ
end_of (pragma.Prefix text) = 2
end_of (pragma.Id name text) = last_at 2 name + 1
end_of (pragma.Version name major minor) = last_at 2 name + 1

-- ---- further parts of a name, and the token behind them

abbrev Read : Type 0
Read = List (List ℕ) × Token

with-part-count : (o : Option (List ℕ)) (r : Option Read) (read : Read) (n : ℕ) → ((more : Read) → r ≡ Some more → n ≡ 2 * length more.0 + 1)
    → with_part o r ≡ Some read → suc (suc n) ≡ 2 * length read.0 + 1
with-part-count (Some part) (Some more) read n each h =
    let same : (part ∷ more.0, more.1) ≡ read = same_Some (part ∷ more.0, more.1) read h in
    let count : suc (length more.0) ≡ length read.0 = ap (λ (r : Read). length r.0) same in
    omega (arith, count, each more refl)
with-part-count (Some part) None read n each h = cc
with-part-count None r read n each h = cc

parts-if : (b : Bool) (o : Option (List ℕ)) (r : Option Read) (read : Read) (n : ℕ) → ((more : Read) → r ≡ Some more → n ≡ 2 * length more.0 + 1)
    → cond b (with_part o r) None ≡ Some read → suc (suc n) ≡ 2 * length read.0 + 1
parts-if true o r read n each h = with-part-count o r read n each h
parts-if false o r read n each h = cc

further-count : (tokens : List Token) (read : Read) → further_parts tokens ≡ Some read → length tokens ≡ 2 * length read.0 + 1
further-count [] read h = cc
further-count (last ∷ []) read h =
    let count : 0 ≡ length read.0 = ap (λ (r : Read). length r.0) (same_Some ([], last) read h) in
    omega (arith, count)
further-count (separator ∷ part ∷ rest) read h = parts-if (is_separator (kind_of separator)) (part_of part) (further_parts rest) read (length rest) (further-count rest) h

-- ---- a name, and the token behind it

named-count : (g : Bool) (o : Option (List ℕ)) (r : Option Read) (n : ℕ) (found : ScopedName × Token) → ((more : Read) → r ≡ Some more → n ≡ 2 * length more.0 + 1)
    → named g o r ≡ Some found → suc n ≡ 2 * length found.0.rest + 2
named-count g (Some part) (Some more) n found each h =
    let same = same_Some (record { is_global = g; first = part; rest = more.0 }, more.1) found h in
    let count : length more.0 ≡ length found.0.rest = ap (λ (r : ScopedName × Token). length r.0.rest) same in
    omega (arith, count, each more refl)
named-count g (Some part) None n found each h = cc
named-count g None r n found each h = cc

named-global : (g : Bool) (o : Option (List ℕ)) (r : Option Read) (found : ScopedName × Token) → named g o r ≡ Some found → g ≡ found.0.is_global
named-global g (Some part) (Some more) found h =
    ap (λ (r : ScopedName × Token). r.0.is_global) (same_Some (record { is_global = g; first = part; rest = more.0 }, more.1) found h)
named-global g (Some part) None found h = cc
named-global g None r found h = cc

from-count : (g : Bool) (tokens : List Token) (found : ScopedName × Token) → name_from g tokens ≡ Some found → length tokens ≡ 2 * length found.0.rest + 2
from-count g [] found h = cc
from-count g (first ∷ rest) found h = named-count g (part_of first) (further_parts rest) (length rest) found (further-count rest) h

from-global : (g : Bool) (tokens : List Token) (found : ScopedName × Token) → name_from g tokens ≡ Some found → g ≡ found.0.is_global
from-global g [] found h = cc
from-global g (first ∷ rest) found h = named-global g (part_of first) (further_parts rest) found h

-- the number of a name's last part, where it begins at this token
last-global : (at : ℕ) (name : ScopedName) (g : Bool) → g ≡ name.is_global → last_at at name ≡ at + cond g 1 0 + 2 * length name.rest
last-global at name g h = ap (λ b. at + cond b 1 0 + 2 * length name.rest) (sym h)

before-if : (b : Bool) (t : Token) (rest : List Token) (found : ScopedName × Token) → cond b (name_from true rest) (name_from false (t ∷ rest)) ≡ Some found
    → suc (suc (length (t ∷ rest))) ≡ last_at 2 found.0 + 2
before-if true t rest found h =
    let count = from-count true rest found h in
    let last : last_at 2 found.0 ≡ 2 + 1 + 2 * length found.0.rest = last-global 2 found.0 true (from-global true rest found h) in
    omega (arith, count, last)
before-if false t rest found h =
    let count = from-count false (t ∷ rest) found h in
    let last : last_at 2 found.0 ≡ 2 + 0 + 2 * length found.0.rest = last-global 2 found.0 false (from-global false (t ∷ rest) found h) in
    omega (arith, count, last)

before-count : (tokens : List Token) (found : ScopedName × Token) → name_before tokens ≡ Some found → suc (suc (length tokens)) ≡ last_at 2 found.0 + 2
before-count [] found h = cc
before-count (t ∷ rest) found h = before-if (is_separator (kind_of t)) t rest found h

-- ---- pragmas

-- this is its last token
abbrev EndsAt : ℕ → Pragma → Type 0
EndsAt n p = n ≡ suc (end_of p)

made-count : {X : Type 0} (make : X → Pragma) (n : ℕ) → ((x : X) → EndsAt n (make x)) → (o : Option X) (p : Pragma) → option_map make o ≡ Some p → EndsAt n p
made-count make n each None p h = cc
made-count make n each (Some x) p h = subst (EndsAt n) (same_Some (make x) p h) (each x)

prefix-count : (tokens : List Token) (p : Pragma) → prefix_of (only tokens) ≡ Some p → EndsAt (suc (suc (length tokens))) p
prefix-count [] p h = cc
prefix-count (t ∷ []) p h = made-count pragma.Prefix 3 (λ x. refl) (text_of t) p h
prefix-count (t ∷ u ∷ rest) p h = cc

id-count : (o : Option (ScopedName × Token)) (n : ℕ) (p : Pragma) → ((found : ScopedName × Token) → o ≡ Some found → n ≡ last_at 2 found.0 + 2) → id_of o ≡ Some p → EndsAt n p
id-count None n p each h = cc
id-count (Some found) n p each h = made-count (pragma.Id found.0) n (λ x. omega (arith, each found refl)) (text_of found.1) p h

version-count : (o : Option (ScopedName × Token)) (n : ℕ) (p : Pragma) → ((found : ScopedName × Token) → o ≡ Some found → n ≡ last_at 2 found.0 + 2) → versioned o ≡ Some p → EndsAt n p
version-count None n p each h = cc
version-count (Some found) n p each h = made-count (λ v. pragma.Version found.0 v.0 v.1) n (λ v. omega (arith, each found refl)) (version_of found.1) p h

by-count : (is_prefix is_id is_version : Bool) (tokens : List Token) (p : Pragma)
    → cond is_prefix (prefix_of (only tokens)) (cond is_id (id_of (name_before tokens)) (cond is_version (versioned (name_before tokens)) None)) ≡ Some p → EndsAt (suc (suc (length tokens))) p
by-count true is_id is_version tokens p h = prefix-count tokens p h
by-count false true is_version tokens p h = id-count (name_before tokens) (suc (suc (length tokens))) p (before-count tokens) h
by-count false false true tokens p h = version-count (name_before tokens) (suc (suc (length tokens))) p (before-count tokens) h
by-count false false false tokens p h = cc

pub pragma-length : (tokens : List Token) (p : Pragma) → pragma_of tokens ≡ Some p → length tokens ≡ suc (end_of p)
pragma-length [] p h = cc
pragma-length (t ∷ []) p h = cc
pragma-length (t ∷ word ∷ operands) p h = by-count (bytes_eq word (codes "prefix")) (bytes_eq word (codes "ID")) (bytes_eq word (codes "version")) operands p h
