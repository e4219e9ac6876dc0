-- When two kinds of entities, or two stages, are one.
use Rattle.std.specs.Prelude.{◌≡◌, ℕ, Bool, true, ◌==◌, ◌||◌, if◌then◌else◌, nat_eq, refl, false}
use Rattle.std.proofs.Common.{ap, sym, ◌∙◌}
use Rattle.idl_base.specs.Exact.{same_number}
use Rattle.idl_entity.specs.declared.kind.Kind.{Kind}
use Rattle.idl_entity.specs.declared.kind.Kind.TheVariants.{Module, Interface, Structure, Union, Exception, Enumeration, Enumerator, Alias, Native, Constant, Attribute, Operation, Parameter, Member}
use Rattle.idl_entity.specs.declared.kind.Stage.{Stage}
use Rattle.idl_entity.specs.declared.kind.Stage.TheVariants.{Ahead, Begun, Open, Complete}

-- a number for each
abbrev pub kind_number : Kind → ℕ
kind_number Module = 0
kind_number Interface = 1
kind_number Structure = 2
kind_number Union = 3
kind_number Exception = 4
kind_number Enumeration = 5
kind_number Enumerator = 6
kind_number Alias = 7
kind_number Native = 8
kind_number Constant = 9
kind_number Attribute = 10
kind_number Operation = 11
kind_number Parameter = 12
kind_number Member = 13

-- the one with a number
abbrev pub kind_of : ℕ → Kind
kind_of n = if n == 0 then Module else if n == 1 then Interface else if n == 2 then Structure else if n == 3 then Union else if n == 4 then Exception else if n == 5 then Enumeration else if n == 6 then Enumerator else if n == 7 then Alias else if n == 8 then Native else if n == 9 then Constant else if n == 10 then Attribute else if n == 11 then Operation else if n == 12 then Parameter else Member

kind_of-number : (x : Kind) → kind_of (kind_number x) ≡ x
kind_of-number Module = refl
kind_of-number Interface = refl
kind_of-number Structure = refl
kind_of-number Union = refl
kind_of-number Exception = refl
kind_of-number Enumeration = refl
kind_of-number Enumerator = refl
kind_of-number Alias = refl
kind_of-number Native = refl
kind_of-number Constant = refl
kind_of-number Attribute = refl
kind_of-number Operation = refl
kind_of-number Parameter = refl
kind_of-number Member = refl

-- whether two are one
abbrev pub kind_eq : Kind → Kind → Bool
kind_eq x y = nat_eq (kind_number x) (kind_number y)

pub same_kind : (x y : Kind) → kind_eq x y ≡ true → x ≡ y
same_kind x y h = sym (kind_of-number x) ∙ ap kind_of (same_number (kind_number x) (kind_number y) h) ∙ kind_of-number y

-- a number for each
abbrev pub stage_number : Stage → ℕ
stage_number Ahead = 0
stage_number Begun = 1
stage_number Open = 2
stage_number Complete = 3

-- the one with a number
abbrev pub stage_of : ℕ → Stage
stage_of n = if n == 0 then Ahead else if n == 1 then Begun else if n == 2 then Open else Complete

stage_of-number : (x : Stage) → stage_of (stage_number x) ≡ x
stage_of-number Ahead = refl
stage_of-number Begun = refl
stage_of-number Open = refl
stage_of-number Complete = refl

-- whether two are one
abbrev pub stage_eq : Stage → Stage → Bool
stage_eq x y = nat_eq (stage_number x) (stage_number y)

pub same_stage : (x y : Stage) → stage_eq x y ≡ true → x ≡ y
same_stage x y h = sym (stage_of-number x) ∙ ap stage_of (same_number (stage_number x) (stage_number y) h) ∙ stage_of-number y

-- whether what is declared in bases is reached from an entity at this stage
abbrev pub has_bases : Stage → Bool
has_bases Ahead = false
has_bases Begun = false
has_bases Open = true
has_bases Complete = true

-- whether a scope of this kind has what its bases have
abbrev pub inherits : Kind → Bool
inherits kind = kind_eq kind Interface || kind_eq kind Structure

-- whether further parts of a name are looked for in an entity of this kind
abbrev pub is_scope : Kind → Bool
is_scope Module = true
is_scope Interface = true
is_scope Structure = true
is_scope Union = true
is_scope Exception = true
is_scope other = false
