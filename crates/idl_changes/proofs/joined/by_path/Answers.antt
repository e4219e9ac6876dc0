use Rattle.std.proofs.Common.{◌∙◌, Bool, None, Some, ap, if◌then◌else◌, sym}
use Rattle.std.specs.Option.{option_copied}
use Rattle.idl_changes.proofs.PathLemmas.{path-called, path-none, path-own, path-tested}
use Rattle.idl_changes.proofs.joined.by_path.Goals as goal

pub returns-then-is_called : goal.returns-then-is_called
returns-then-is_called c =
    let at = sym c.entry.ensures ∙ ap option_copied c.in_ok-entry.was in
    sym (path-called c.args.listings.0.now c.args.listings.1.now c.args.place c.in_ok-entry.entry.now at (sym c.is_called.ensures ∙ c.if-is_called.true))

pub returns-in_err-other : goal.returns-in_err-other
returns-in_err-other c =
    let old = c.args.listings.0.now in
    let new = c.args.listings.1.now in
    let i = c.args.place in
    let e = c.in_ok-entry.entry.now in
    let at = sym c.entry.ensures ∙ ap option_copied c.in_ok-entry.was in
    c.from_residual-in_err-other.ensures
    ∙ sym (path-own old new i e at (sym c.is_called.ensures ∙ c.if-is_called.false) ∙ path-none old new i e (sym c.place_of.ensures ∙ c.in_err-other.was))

pub returns-then-fits : goal.returns-then-fits
returns-then-fits c =
    let old = c.args.listings.0.now in
    let new = c.args.listings.1.now in
    let i = c.args.place in
    let e = c.in_ok-entry.entry.now in
    let k = c.in_ok-other.other in
    let at = sym c.entry.ensures ∙ ap option_copied c.in_ok-entry.was in
    sym (path-own old new i e at (sym c.is_called.ensures ∙ c.if-is_called.false)
    ∙ path-tested old new i e k c.args.back.now c.requires (sym c.place_of.ensures ∙ c.in_ok-other.was) c.fits.result c.fits.ensures
    ∙ ap (λ (b : Bool). if b then Some k else None) c.if-fits.true)

pub returns-else-fits : goal.returns-else-fits
returns-else-fits c =
    let old = c.args.listings.0.now in
    let new = c.args.listings.1.now in
    let i = c.args.place in
    let e = c.in_ok-entry.entry.now in
    let k = c.in_ok-other.other in
    let at = sym c.entry.ensures ∙ ap option_copied c.in_ok-entry.was in
    sym (path-own old new i e at (sym c.is_called.ensures ∙ c.if-is_called.false)
    ∙ path-tested old new i e k c.args.back.now c.requires (sym c.place_of.ensures ∙ c.in_ok-other.was) c.fits.result c.fits.ensures
    ∙ ap (λ (b : Bool). if b then Some k else None) c.if-fits.false)
