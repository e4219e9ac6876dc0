use Rattle.std.proofs.Common.{◌≡◌, Bool, true, false, map, not, refl}
use Rattle.std.specs.Prelude.{Contains}
use Rattle.std.proofs.lemmas.List.Elements.{All-map}
use Rattle.idl_env.specs.keys.Key.{key_digest}
use Rattle.idl_root.proofs.ChangedLemmas.{shares-none}
use Rattle.idl_root.proofs.kept.changed.Changed.shares_none_of.Goals as goal

is-false : (b : Bool) → not b ≡ true → b ≡ false
is-false true h = cc
is-false false h = refl

pub returns-else-is_empty : goal.returns-else-is_empty
returns-else-is_empty c = λ yes.
    let digests = map (λ e. key_digest e.0) c.args.log.now in
    shares-none digests c.args.self.now (All-map (λ n. Contains c.args.self.now n → ⊥) (λ e. key_digest e.0) c.args.log.now (c.shares.ensures (is-false c.shares.result yes)))
