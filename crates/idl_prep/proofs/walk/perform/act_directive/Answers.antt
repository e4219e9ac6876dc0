use Rattle.std.proofs.Common.{refl, ap}
use Rattle.std.proofs.lemmas.Result.{IfOk-weaker}
use Rattle.idl_text.specs.declared.groups.kind.Plain.TheVariants.{Include, Define, Undef, Error, Pragma, Ignored, Unknown}
use Rattle.idl_prep.specs.State.{ended}
use Rattle.idl_prep.proofs.DirectiveLemmas.{acted}
use Rattle.idl_prep.proofs.walk.perform.act_directive.Goals as goal

pub returns-in-Include : goal.returns-in-Include
returns-in-Include g c = IfOk-weaker c.include.result _ _ (λ _ came enter.
    let bank = g.B.Bank.at c.args.site.now.bank.now in
    acted bank enter c.args.site.now.file.now c.args.directive.now c.args.what Include c.args.root.now c.turn.new.self _ c.requires c.in-Include.is c.in_ok-turn.ensures (came enter)) c.include.ensures

pub returns-in_ok-define-in-Define : goal.returns-in_ok-define-in-Define
returns-in_ok-define-in-Define g c = λ enter.
    let bank = g.B.Bank.at c.args.site.now.bank.now in
    acted bank enter c.args.site.now.file.now c.args.directive.now c.args.what Define c.args.root.now c.turn.new.self _ c.requires c.in-Define.is c.in_ok-turn.ensures c.in_ok-define-in-Define.ensures

pub returns-in_ok-undef-in-Undef : goal.returns-in_ok-undef-in-Undef
returns-in_ok-undef-in-Undef g c = λ enter.
    let bank = g.B.Bank.at c.args.site.now.bank.now in
    acted bank enter c.args.site.now.file.now c.args.directive.now c.args.what Undef c.args.root.now c.turn.new.self _ c.requires c.in-Undef.is c.in_ok-turn.ensures (c.in_ok-undef-in-Undef.ensures bank)

pub returns-in_ok-act_error-in-Error : goal.returns-in_ok-act_error-in-Error
returns-in_ok-act_error-in-Error g c = λ enter.
    let bank = g.B.Bank.at c.args.site.now.bank.now in
    acted bank enter c.args.site.now.file.now c.args.directive.now c.args.what Error c.args.root.now c.turn.new.self _ c.requires c.in-Error.is c.in_ok-turn.ensures (ap ended c.in_ok-act_error-in-Error.ensures)

pub returns-in_ok-pragma-in-Pragma : goal.returns-in_ok-pragma-in-Pragma
returns-in_ok-pragma-in-Pragma g c = λ enter.
    let bank = g.B.Bank.at c.args.site.now.bank.now in
    acted bank enter c.args.site.now.file.now c.args.directive.now c.args.what Pragma c.args.root.now c.turn.new.self _ c.requires c.in-Pragma.is c.in_ok-turn.ensures (c.in_ok-pragma-in-Pragma.ensures bank)

pub returns-in-Ignored : goal.returns-in-Ignored
returns-in-Ignored g c = λ enter.
    let bank = g.B.Bank.at c.args.site.now.bank.now in
    acted bank enter c.args.site.now.file.now c.args.directive.now c.args.what Ignored c.args.root.now c.turn.new.self _ c.requires c.in-Ignored.is c.in_ok-turn.ensures refl

pub returns-in_ok-fault_at-in-Unknown : goal.returns-in_ok-fault_at-in-Unknown
returns-in_ok-fault_at-in-Unknown g c = λ enter.
    let bank = g.B.Bank.at c.args.site.now.bank.now in
    acted bank enter c.args.site.now.file.now c.args.directive.now c.args.what Unknown c.args.root.now c.turn.new.self _ c.requires c.in-Unknown.is c.in_ok-turn.ensures (ap ended c.in_ok-fault_at-in-Unknown.ensures)
