use Rattle.std.proofs.Common.{◌∙◌, arith, sym}
use Rattle.lake_values.specs.Texts.{same_text}
use Rattle.lake_core.proofs.ReserveLemmas.{repeated}
use Rattle.lake_core.proofs.reservations.repeats.Goals as goal

pub returns-in-Some : goal.returns-in-Some
returns-in-Some c = λ same part is.
    let before = c.index-parts-before in
    let place = c.index-parts-place in
    repeated c.args.parts.now c.in-Some.before c.args.place before.result place.result part before.is (omega (arith, c.in-Some.ensures.0, c.in-Some.ensures.1)) (omega (arith, c.requires, c.in-Some.ensures.0, c.in-Some.ensures.1)) place.is is c.requires
    ((λ i. same_text (before.is i).table (place.is i).table) ∙ sym c.eq.ensures ∙ same)
