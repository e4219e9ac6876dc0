use Rattle.std.proofs.Common.{◌≡◌, ◌+◌, ◌-◌, ℕ, List, Option, refl, suc, subst, sym, ap, ◌∙◌, map, arith}
use denote.Ref.{Bor}
use Rattle.std.specs.Option.{IsSome}
use Rattle.std.specs.Option.{option_copied}
use Rattle.idl_env.specs.Facts.{answers, joined}
use Rattle.idl_scope.specs.Lookup.{entered, walk}
use Rattle.idl_scope.proofs.LookupLaws.RunLemmas.{runs, walk_end, walk_on}
use Rattle.idl_scope.proofs.lookup.View.reached_through.Goals as goal

pub bases-init : goal.bases-init
bases-init c turns more =
    let own = c.args.self.own.now.additions in
    let bank = answers c.args.self.env.now in
    let queue = c.in_ok-join.ensures ∙ ap (λ q. joined q c.args.bases.now) c.new-queue.ensures in
    let all : turns - 0 ≡ turns = omega arith in
    λ i. runs own bank (walk (all i) c.args.name.now 0 (queue i) (map (λ e. e.now) (c.new-found.ensures.items i))) c.args.log.now

pub returns : goal.returns
returns c turns more =
    let own = c.args.self.own.now.additions in
    let bank = answers c.args.self.env.now in
    let end = sym c.get.ensures.path ∙ ap option_copied c.in_default.is in
    sym (walk_end own bank (turns - c.bases.turn) c.args.name.now c.bases.turn c.bases.queue (map (λ e. e.now) c.bases.found.items) c.bases.log end)
    ∙ c.bases.invariant turns more

pub bases-preserved : goal.bases-preserved
bases-preserved c turns more =
    let own = c.args.self.own.now.additions in
    let bank = answers c.args.self.env.now in
    let turn = c.bases.turn in
    let found = map (λ e. e.now) c.bases.found.items in
    let queue = c.bases.queue in
    let here = sym c.get.ensures.path ∙ ap option_copied c.in-Some.is in
    let counted = c.get.ensures.counted (let Q : Option (Bor (List (List ℕ))) → Type 0 = IsSome in subst Q (sym c.in-Some.is) refl) in
    let fewer : turns - turn ≡ suc (turns - (turn + 1)) = omega (arith, more, counted) in
    let same : c.in_ok-shared.shared ≡ c.args.name.now = c.in_ok-shared.ensures ∙ c.in_ok-clone.ensures.cases in
    let step = walk_on own bank (turns - (turn + 1)) c.args.name.now turn queue found c.bases.log c.in-Some.base.now _ _ here (c.in_ok-declared.ensures ∙ ap (λ name. runs own bank (entered name c.in-Some.base.now) c.bases.log) same) in
    (λ i. runs own bank (walk (turns - (turn + 1)) c.args.name.now (turn + 1) (c.in_ok-join-2.ensures i) (c.in_ok-keep.ensures i)) c.enter.new.log)
    ∙ sym step
    ∙ ap (λ turns. runs own bank (walk turns c.args.name.now turn queue found) c.bases.log) (sym fewer)
    ∙ c.bases.invariant turns more
