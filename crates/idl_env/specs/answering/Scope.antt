-- When two open scopes are one.
use Rattle.std.specs.Prelude.{◌≡◌, Bool, true, ◌&&◌, nat_eq}
use Rattle.idl_base.specs.Exact.{both, same_number}
use Rattle.idl_entity.specs.Path.{path_eq, same_path}
use Rattle.idl_entity.specs.Kind.{kind_eq, same_kind}
use Rattle.idl_env.specs.declared.answering.answer.Scope.{Scope}

-- whether two scopes are one
abbrev pub scope_eq : Scope → Scope → Bool
scope_eq s t = path_eq s.path t.path && (kind_eq s.kind t.kind && nat_eq s.body t.body)

pub same_scope : (s t : Scope) → scope_eq s t ≡ true → s ≡ t
same_scope s t h =
    let a = both _ _ h in
    let b = both _ _ a.1 in
    let path = same_path s.path t.path a.0 in
    let kind = same_kind s.kind t.kind b.0 in
    let body = same_number s.body t.body b.1 in
    λ i. record { path = path i; kind = kind i; body = body i }

pub copied_scope : (s copy : Scope)
    → (copy.path ≡ s.path) × ((copy.kind ≡ s.kind) × (copy.body ≡ s.body)) → copy ≡ s
copied_scope s copy h = λ i. record { path = h.0 i; kind = h.1.0 i; body = h.1.1 i }
