use Rattle.std.proofs.Common.{◌++◌, ◌∷◌, [], List, ℕ, subst, codes}
use Rattle.std.proofs.lemmas.Result.{on_err_weaker, on_ok_weaker}
use Rattle.std.specs.Fmt.{decimal}
use Rattle.idl_source.specs.devices.Device.{WritesPart}
use Rattle.idl_loader.specs.Gathering.{Sends}
use Rattle.idl_session.specs.replies.Replies.{work_reply}
use Rattle.idl_loader.proofs.ReplyLemmas.{on_err, part-front, sends-more, sends-part, sends-end, sends-end-part}
use Rattle.idl_session.proofs.reply.write_work.Goals as goal

pub returns-in_err-push_number-clause-part : goal.returns-in_err-push_number-clause-part
returns-in_err-push_number-clause-part g c =
    let w = g.K.Sink.written c.args.sink.now in
    let x = codes "work " ++ decimal c.args.work.expanded in
    let y = codes " " ++ decimal c.args.work.checked in
    let z = codes " " ++ decimal c.args.work.printed in
    let v1 = g.K.Sink.written c.push_number.new.sink in
    let first : WritesPart w x v1 = subst (λ (r : List ℕ). WritesPart w (r ++ x) v1) c.new-reply.ensures c.in_err-push_number.ensures.part in
    on_err c.from_residual.result (part-front w v1 ((x ++ y) ++ z) (10 ∷ []) (part-front w v1 (x ++ y) z (part-front w v1 x y first)))

pub returns-in_err-push_number-2-clause-part : goal.returns-in_err-push_number-2-clause-part
returns-in_err-push_number-2-clause-part g c =
    let w = g.K.Sink.written c.args.sink.now in
    let x = codes "work " ++ decimal c.args.work.expanded in
    let y = codes " " ++ decimal c.args.work.checked in
    let z = codes " " ++ decimal c.args.work.printed in
    let v1 = g.K.Sink.written c.push_number.new.sink in
    let h1 = c.push_number.new.self in
    let s1 : Sends w x v1 h1 = subst (λ (r : List ℕ). Sends w (r ++ x) v1 h1) c.new-reply.ensures c.in_ok-push_number.ensures.sent in
    let v2 = g.K.Sink.written c.push_number-2.new.sink in
    on_err c.from_residual-in_err-push_number-2.result
    (part-front w v2 ((x ++ y) ++ z) (10 ∷ []) (part-front w v2 (x ++ y) z (sends-part w v1 v2 [] x y h1 s1 c.in_err-push_number-2.ensures.part)))

pub returns-in_err-push_number-3-clause-part : goal.returns-in_err-push_number-3-clause-part
returns-in_err-push_number-3-clause-part g c =
    let w = g.K.Sink.written c.args.sink.now in
    let x = codes "work " ++ decimal c.args.work.expanded in
    let y = codes " " ++ decimal c.args.work.checked in
    let z = codes " " ++ decimal c.args.work.printed in
    let v1 = g.K.Sink.written c.push_number.new.sink in
    let h1 = c.push_number.new.self in
    let s1 : Sends w x v1 h1 = subst (λ (r : List ℕ). Sends w (r ++ x) v1 h1) c.new-reply.ensures c.in_ok-push_number.ensures.sent in
    let v2 = g.K.Sink.written c.push_number-2.new.sink in
    let h2 = c.push_number-2.new.self in
    let s2 : Sends w (x ++ y) v2 h2 = sends-more w v1 v2 [] x y h1 h2 s1 c.in_ok-push_number-2.ensures.sent in
    let v3 = g.K.Sink.written c.push_number-3.new.sink in
    on_err c.from_residual-in_err-push_number-3.result
    (part-front w v3 ((x ++ y) ++ z) (10 ∷ []) (sends-part w v2 v3 [] (x ++ y) z h2 s2 c.in_err-push_number-3.ensures.part))

pub returns-in_err-push-clause-part : goal.returns-in_err-push-clause-part
returns-in_err-push-clause-part g c =
    let w = g.K.Sink.written c.args.sink.now in
    let x = codes "work " ++ decimal c.args.work.expanded in
    let y = codes " " ++ decimal c.args.work.checked in
    let z = codes " " ++ decimal c.args.work.printed in
    let v1 = g.K.Sink.written c.push_number.new.sink in
    let h1 = c.push_number.new.self in
    let s1 : Sends w x v1 h1 = subst (λ (r : List ℕ). Sends w (r ++ x) v1 h1) c.new-reply.ensures c.in_ok-push_number.ensures.sent in
    let v2 = g.K.Sink.written c.push_number-2.new.sink in
    let h2 = c.push_number-2.new.self in
    let s2 : Sends w (x ++ y) v2 h2 = sends-more w v1 v2 [] x y h1 h2 s1 c.in_ok-push_number-2.ensures.sent in
    let v3 = g.K.Sink.written c.push_number-3.new.sink in
    let h3 = c.push_number-3.new.self in
    let s3 : Sends w ((x ++ y) ++ z) v3 h3 = sends-more w v2 v3 [] (x ++ y) z h2 h3 s2 c.in_ok-push_number-3.ensures.sent in
    let v4 = g.K.Sink.written c.push.new.sink in
    on_err c.from_residual-in_err-push.result (sends-part w v3 v4 [] ((x ++ y) ++ z) (10 ∷ []) h3 s3 c.in_err-push.ensures.part)

pub returns-clause-written : goal.returns-clause-written
returns-clause-written g c =
    let w = g.K.Sink.written c.args.sink.now in
    let x = codes "work " ++ decimal c.args.work.expanded in
    let y = codes " " ++ decimal c.args.work.checked in
    let z = codes " " ++ decimal c.args.work.printed in
    let v1 = g.K.Sink.written c.push_number.new.sink in
    let h1 = c.push_number.new.self in
    let s1 : Sends w x v1 h1 = subst (λ (r : List ℕ). Sends w (r ++ x) v1 h1) c.new-reply.ensures c.in_ok-push_number.ensures.sent in
    let v2 = g.K.Sink.written c.push_number-2.new.sink in
    let h2 = c.push_number-2.new.self in
    let s2 : Sends w (x ++ y) v2 h2 = sends-more w v1 v2 [] x y h1 h2 s1 c.in_ok-push_number-2.ensures.sent in
    let v3 = g.K.Sink.written c.push_number-3.new.sink in
    let h3 = c.push_number-3.new.self in
    let s3 : Sends w ((x ++ y) ++ z) v3 h3 = sends-more w v2 v3 [] (x ++ y) z h2 h3 s2 c.in_ok-push_number-3.ensures.sent in
    let v4 = g.K.Sink.written c.push.new.sink in
    let h4 = c.push.new.self in
    let s4 : Sends w (work_reply c.args.work) v4 h4 = sends-more w v3 v4 [] ((x ++ y) ++ z) (10 ∷ []) h3 h4 s3 c.in_ok-push.ensures.sent in
    on_ok_weaker c.finish.result (λ written. sends-end w v4 (g.K.Sink.written c.finish.new.sink) (work_reply c.args.work) h4 s4 written) c.finish.ensures.written

pub returns-clause-part : goal.returns-clause-part
returns-clause-part g c =
    let w = g.K.Sink.written c.args.sink.now in
    let x = codes "work " ++ decimal c.args.work.expanded in
    let y = codes " " ++ decimal c.args.work.checked in
    let z = codes " " ++ decimal c.args.work.printed in
    let v1 = g.K.Sink.written c.push_number.new.sink in
    let h1 = c.push_number.new.self in
    let s1 : Sends w x v1 h1 = subst (λ (r : List ℕ). Sends w (r ++ x) v1 h1) c.new-reply.ensures c.in_ok-push_number.ensures.sent in
    let v2 = g.K.Sink.written c.push_number-2.new.sink in
    let h2 = c.push_number-2.new.self in
    let s2 : Sends w (x ++ y) v2 h2 = sends-more w v1 v2 [] x y h1 h2 s1 c.in_ok-push_number-2.ensures.sent in
    let v3 = g.K.Sink.written c.push_number-3.new.sink in
    let h3 = c.push_number-3.new.self in
    let s3 : Sends w ((x ++ y) ++ z) v3 h3 = sends-more w v2 v3 [] (x ++ y) z h2 h3 s2 c.in_ok-push_number-3.ensures.sent in
    let v4 = g.K.Sink.written c.push.new.sink in
    let h4 = c.push.new.self in
    let s4 : Sends w (work_reply c.args.work) v4 h4 = sends-more w v3 v4 [] ((x ++ y) ++ z) (10 ∷ []) h3 h4 s3 c.in_ok-push.ensures.sent in
    on_err_weaker c.finish.result (λ part. sends-end-part w v4 (g.K.Sink.written c.finish.new.sink) (work_reply c.args.work) h4 s4 part) c.finish.ensures.part
