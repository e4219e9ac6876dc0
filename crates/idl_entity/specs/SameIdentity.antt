-- Why `==` holds of one prefix and of one identity alone, and why a clone is its source.
-- Nothing to believe here: all of it is proved.
use Rattle.std.specs.Prelude.{◌≡◌, ◌&&◌, Bool, true}
use Rattle.std.proofs.Common.{ap}
use Rattle.std.specs.Cmp.Lexicographic.{bytes_decides}
use Rattle.std.specs.Str.{bytes_eq}
use Rattle.idl_base.specs.Exact.{both, same_number}
use Rattle.idl_entity.specs.Path.{path_eq, same_path}
use Rattle.idl_entity.specs.contracts.identity.FixedPartialEq.TheImpl.{ghosts}
use Rattle.idl_entity.specs.declared.identity.Fixed.{Fixed}
use Rattle.idl_entity.specs.declared.identity.Fixed.TheVariants.{Version, Id}
use Rattle.idl_entity.specs.declared.identity.FixedIdentity.{FixedIdentity}
use Rattle.idl_entity.specs.declared.identity.Prefix.{Prefix}

-- whether two prefixes are one
abbrev pub prefix_eq : Prefix → Prefix → Bool
prefix_eq p q = bytes_eq p.text q.text && path_eq p.scope q.scope

pub same_prefix : (p q : Prefix) → prefix_eq p q ≡ true → p ≡ q
same_prefix p q h =
    let a = both _ _ h in
    let text = (bytes_decides p.text q.text).0 a.0 in
    let scope = same_path p.scope q.scope a.1 in
    λ i. record { text = text i; scope = scope i }

pub copied_prefix : (p copy : Prefix) → (copy.text ≡ p.text) × (copy.scope ≡ p.scope) → copy ≡ p
copied_prefix p copy h = λ i. record { text = h.0 i; scope = h.1 i }

-- whether the same is fixed
abbrev pub fixed_eq : Fixed → Fixed → Bool
fixed_eq = ghosts.eq

pub same_fixed : (x y : Fixed) → fixed_eq x y ≡ true → x ≡ y
same_fixed (Version a b) (Version c d) h =
    let numbers = both _ _ h in
    let major = same_number a c numbers.0 in
    let minor = same_number b d numbers.1 in
    λ i. Version (major i) (minor i)
same_fixed (Id s) (Id t) h = ap Id ((bytes_decides s t).0 h)
same_fixed x y h = cc

-- a copy of what is fixed is its source, by the copies of its parts
abbrev pub IsFixedCopy : Fixed → Fixed → Type 0
IsFixedCopy (Version a b) (Version c d) = (c ≡ a) × (d ≡ b)
IsFixedCopy (Id s) (Id t) = t ≡ s
IsFixedCopy x copy = ⊥

pub copied_fixed : (x copy : Fixed) → IsFixedCopy x copy → copy ≡ x
copied_fixed (Version a b) (Version c d) h = λ i. Version (h.0 i) (h.1 i)
copied_fixed (Id s) (Id t) h = ap Id h
copied_fixed x copy h = absurd h

-- whether two names are identified by the same
abbrev pub identity_eq : FixedIdentity → FixedIdentity → Bool
identity_eq d e = prefix_eq d.prefix e.prefix && fixed_eq d.by e.by

pub same_identity : (d e : FixedIdentity) → identity_eq d e ≡ true → d ≡ e
same_identity d e h =
    let a = both _ _ h in
    let prefix = same_prefix d.prefix e.prefix a.0 in
    let fixed = same_fixed d.by e.by a.1 in
    λ i. record { prefix = prefix i; by = fixed i }

pub copied_identity : (d copy : FixedIdentity)
    → (copy.prefix ≡ d.prefix) × IsFixedCopy d.by copy.by → copy ≡ d
copied_identity d copy h =
    let fixed = copied_fixed d.by copy.by h.1 in
    λ i. record { prefix = h.0 i; by = fixed i }
