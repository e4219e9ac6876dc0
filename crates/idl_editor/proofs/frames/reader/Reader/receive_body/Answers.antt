use Rattle.std.proofs.Common.{◌≡◌, ◌∙◌, ◌+◌, ◌<◌, false, length, sym, ap, subst, arith, rules}
use Rattle.idl_source.specs.devices.Device.{prepend}
use Rattle.idl_editor.specs.frames.Heads.{IsHeadAt}
use Rattle.idl_editor.specs.frames.Reading.{EndsWithin}
use Rattle.idl_editor.proofs.ReadingLemmas.{ends-in_body, head-stays}
use Rattle.idl_editor.proofs.frames.reader.Reader.receive_body.Goals as goal

pub returns-then-not-branch-clause-received : goal.returns-then-not-branch-clause-received
returns-then-not-branch-clause-received g c =
    let rest = g.S.Source.remaining c.fill.new.source in
    let held = c.fill.new.self in
    let none : c.in_ok-fill.field-0 ≡ false = search rules in
    let over = c.in_ok-fill.ensures.ended none in
    let same : prepend held rest ≡ prepend c.args.self.now (g.S.Source.remaining c.args.source.now) = c.in_ok-fill.ensures.same ∙ c.pieces.invariant.same in
    let at : IsHeadAt held c.args.len c.args.count = subst (λ h. IsHeadAt h c.args.len c.args.count) (sym over.0) c.pieces.invariant.head in
    let few : length held < c.args.len + c.args.count = omega (arith, ap length over.0, ap length c.self.view_is) in
    (subst EndsWithin same (ends-in_body rest held c.args.len c.args.count at few over.1), same)

pub pieces-preserved : goal.pieces-preserved
pieces-preserved g c =
    let more = c.in_ok-fill.ensures.grows in
    record {
      same = c.in_ok-fill.ensures.same ∙ c.pieces.invariant.same;
      head = subst (λ h. IsHeadAt h c.args.len c.args.count) (sym more.1) (head-stays c.pieces.self more.0 c.args.len c.args.count c.pieces.invariant.head);
      nearer = omega (arith, c.in_ok-fill.ensures.bounded, c.pieces.invariant.nearer);
      failures = c.in_ok-fill.ensures.ok ∙ c.pieces.invariant.failures;
    }

pub returns-clause-received : goal.returns-clause-received
returns-clause-received g c =
    let taken = c.in_ok-body.ensures.taken (g.S.Source.remaining c.pieces.source) in
    (taken.0, taken.1, sym c.pieces.invariant.same ∙ taken.2)
