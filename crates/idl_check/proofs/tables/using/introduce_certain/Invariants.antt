use Rattle.std.proofs.Common.{◌≡◌, ◌-◌, drop, map, take}
use Rattle.std.specs.Prelude.{fold}
use Rattle.idl_env.specs.Facts.{with_addition}
use Rattle.idl_env.specs.declared.additions.addition.Addition.TheVariants.{Uses}
use Rattle.idl_check.proofs.tables.using.introduce_certain.Given as goal

-- those that are still reached, put behind those so far, come to all of them
abbrev pub invariant-loop-reached : goal.invariant-loop-reached
invariant-loop-reached l = record {
  left : l.rest ≡ drop l._reached l.scopes;
  uses : fold with_addition l.own.additions (map (λ s. Uses l.name s.path s.body) (take (l.count - l._reached) l.rest))
      ≡ fold with_addition l.fn.own.additions (map (λ s. Uses l.name s.path s.body) (take l.count l.scopes));
  step : l.own.step ≡ l.fn.own.step;
}
