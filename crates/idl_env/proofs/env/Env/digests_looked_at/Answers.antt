use Rattle.std.proofs.Common.{rules}
use Rattle.std.specs.Prelude.{All, Contains, flat_map}
use Rattle.idl_env.specs.Facts.{stops_of, with_additions, world}
use Rattle.idl_env.specs.keys.Key.{key_digest}
use Rattle.idl_env.specs.Outside.{looked_at}
use Rattle.idl_env.proofs.ApartLemmas.{digests-both}
use Rattle.idl_env.proofs.env.Env.digests_looked_at.Goals as goal

pub returns : goal.returns
returns c =
    let w = world c.args.self.now in
    let f = c.args.facts.now in
    let looked = looked_at (with_additions f.additions w) f.step in
    let first = c.in-Some.digests.items in
    let told : All (λ k. Contains first (key_digest k)) looked = search rules in
    digests-both (flat_map stops_of f.additions) looked first c.stops_into.new.digests.items told c.in_ok-stops_into.ensures
