use Rattle.std.proofs.Common.{◌≡◌, ◌∙◌, List, [], ap, flat_map, map}
use Rattle.idl_root.specs.Details.{listed_entries}
use Rattle.idl_root.specs.Held.{held, listed_at}
use Rattle.idl_root.specs.Named.{named_as}
use Rattle.idl_root.specs.NamePlaces.{declared_names, used_names}
use Rattle.idl_root.specs.declared.compiling.detailing.DetailedEntry.{DetailedEntry}
use Rattle.idl_root.specs.declared.compiling.detailing.Details.{Details}
use Rattle.idl_finding.specs.declared.finding.EventFinding.{EventFinding}
use Rattle.idl_root.specs.declared.compiling.places.PlacedName.{PlacedName}
use Rattle.idl_root.specs.declared.compiling.places.UsedName.{UsedName}
use Rattle.idl_root.specs.declared.compiling.printing.Listed.{Listed as HeldListed}
use Rattle.idl_root.proofs.DetailLemmas.{details-judged}
use Rattle.idl_root.proofs.compiling.detailing.details_of.Goals as goal

made : (a b : List DetailedEntry) (d e : List PlacedName) (u v : List UsedName) → a ≡ b → d ≡ e → u ≡ v
    → let one : Details = record { entries = a; declared = d; uses = u } in let other : Details = record { entries = b; declared = e; uses = v } in one ≡ other
made a b d e u v entries declared uses = λ i. record { entries = entries i; declared = declared i; uses = uses i }

pub returns : goal.returns
returns c =
    let events = c.args.expansion.now in
    let judging = c.in_ok-naming.naming.judging in
    let facts = judging.env in
    let all = map named_as c.in_ok-naming.naming.units.items in
    let listed = map listed_at judging.gathered.listed.items in
    let names = c.in_ok-names.ensures in
    let start = c.in_ok-first.ensures ∙ ap (λ (found : List EventFinding). record { facts = []; found = found; rows = []; listed = [] }) c.new.ensures.items in
    let entries : c.from_vec.result ≡ flat_map (listed_entries facts (declared_names events all)) listed =
    c.from_vec.ensures ∙ c.in_ok-entries.ensures
    ∙ ap (λ (ls : List HeldListed). flat_map (listed_entries facts c.in_ok-names.names.declared.items) (map listed_at ls)) c.as_slice-3.ensures.value
    ∙ ap (λ ds. flat_map (listed_entries facts ds) listed) names.declared in
    let declared : c.from_vec-2.result ≡ declared_names events all = c.from_vec-2.ensures ∙ ap (λ v. v.items) c.into_lists-declared.ensures.declared ∙ names.declared in
    let uses : c.from_vec-3.result ≡ used_names events all = c.from_vec-3.ensures ∙ ap (λ v. v.items) c.into_lists-declared.ensures.used ∙ names.used in
    made c.from_vec.result (flat_map (listed_entries facts (declared_names events all)) listed) c.from_vec-2.result (declared_names events all) c.from_vec-3.result (used_names events all) entries declared uses
    ∙ details-judged events (held c.in_ok-first.first) (held judging) c.as_slice-2.result.now all start c.in_ok-naming.ensures.judging c.in_ok-naming.ensures.units (c.as_slice-2.ensures ∙ c.in_ok-units.ensures)
