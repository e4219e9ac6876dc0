use Rattle.std.proofs.Common.{◌≡◌, ◌∙◌, ◌-◌, ◌<◌, ◌≤◌, length, sym, arith, rules, leb}
use Rattle.std.proofs.lemmas.List.Sorted.{IsPartitionPoint-from_clause, IsPartitionedBy-leb}
use Rattle.idl_event.proofs.SitesLemmas.{copied-get, rise-by, spot_at-is}
use Rattle.idl_event.specs.declared.told.sites.LineEntry.{LineEntry}
use Rattle.idl_event.proofs.told.sites.spot_at.Goals as goal

pub returns-then-count-eq0 : goal.returns-then-count-eq0
returns-then-count-eq0 c =
    let spots = c.args.spots.now in
    let count = c.partition_point-count.result in
    let point = IsPartitionPoint-from_clause (λ (x : LineEntry). leb x.first c.args.index) spots count c.partition_point-count.ensures.partitioned
    (IsPartitionedBy-leb (λ (x : LineEntry). x.first) spots c.args.index (rise-by spots c.requires)) (λ a r q k. search rules) in
    let bound : count ≤ length spots = omega (arith, c.partition_point-count.ensures.bound) in
    let none : count ≡ 0 = search rules in
    sym ((spot_at-is spots c.args.index count point.0 point.1 bound).0 none)

pub returns : goal.returns
returns c =
    let spots = c.args.spots.now in
    let count = c.partition_point-count.result in
    let point = IsPartitionPoint-from_clause (λ (x : LineEntry). leb x.first c.args.index) spots count c.partition_point-count.ensures.partitioned
    (IsPartitionedBy-leb (λ (x : LineEntry). x.first) spots c.args.index (rise-by spots c.requires)) (λ a r q k. search rules) in
    let bound : count ≤ length spots = omega (arith, c.partition_point-count.ensures.bound) in
    let some : 0 < count = search rules in
    let got = copied-get spots (count - 1) c.get.result c.get.ensures.lookup in
    got ∙ sym ((spot_at-is spots c.args.index count point.0 point.1 bound).1 some)
