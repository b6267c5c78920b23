use Rattle.std.proofs.Common.{◌≡◌, ◌<◌, ◌∙◌, length, None, List, ℕ, sym, ap, subst, arith, length-drop}
use Rattle.sql_tokens.specs.declared.fronts.Front.{Front}
use Rattle.sql_tokens.specs.Tokens.{gap, IsWithin}
use Rattle.sql_tokens.proofs.Scanning.{scan_at-end, scan_at-token, scan_at-bad}
use Rattle.sql_tokens.proofs.next.next_lexeme.Goals as goal

pub returns-then-start-bytes-clause-next : goal.returns-then-start-bytes-clause-next
returns-then-start-bytes-clause-next c =
    c.behind_gaps-start.ensures.same
    ∙ scan_at-end c.args.bytes.now c.behind_gaps-start.result (simp length-drop (omega (arith, c.if-start-bytes.true)))

pub returns-in-Token-clause-next : goal.returns-in-Token-clause-next
returns-in-Token-clause-next c =
    let rest = c.split_at.result.1.now in
    let none : gap rest ≡ None = ap (λ (xs : List ℕ). gap xs) c.split_at.ensures.back ∙ c.behind_gaps-start.ensures.no_gap in
    let within = (let P : Front → Type 0 = λ read. IsWithin (length rest) read in subst P c.in-Token.is c.in_ok-lexeme.ensures.within) in
    c.behind_gaps-start.ensures.same
    ∙ scan_at-token c.behind_gaps-start.result c.in-Token.size c.in-Token.lexeme c.args.bytes.now rest c.split_at.ensures.back none
    (sym c.in_ok-lexeme.ensures.value ∙ c.in-Token.is) within.0 within.1

pub returns-in-Bad-clause-next : goal.returns-in-Bad-clause-next
returns-in-Bad-clause-next c =
    let rest = c.split_at.result.1.now in
    let none : gap rest ≡ None = ap (λ (xs : List ℕ). gap xs) c.split_at.ensures.back ∙ c.behind_gaps-start.ensures.no_gap in
    let some : 0 < length rest = omega (arith, c.split_at.ensures.back_len, c.behind_gaps-start.ensures.within, c.if-start-bytes.false) in
    c.behind_gaps-start.ensures.same
    ∙ scan_at-bad c.behind_gaps-start.result c.in-Bad.kind c.args.bytes.now rest c.split_at.ensures.back some none (sym c.in_ok-lexeme.ensures.value ∙ c.in-Bad.is)
