-- Where a line fails, what was handed over is what came before it.
use Rattle.std.proofs.Common.{◌≡◌, ◌∙◌, ap, sym, ◌++◌, ◌∷◌, [], ◌+◌, List, ℕ, Ok, Err, get_or, append-nil, append_assoc, drop, rules, subst, OnErr, Option}
use Rattle.std.{proofs.lemmas.List.drop_more, specs.declared.result.Result.Result}
use Rattle.tsp_lines.{proofs.Outputs.Hands_trans, specs.Outputs.Hands}
use Rattle.tsp_run.specs.declared.line.Line.{Line}
use Rattle.tsp_replay.specs.Traces.{lines_text, line_text}
use Rattle.tsp_replay.proofs.tell.tell.Goals as goal

-- nothing of a line was handed over after this beginning
part_told : {A B : Type 0} (r : Result A B) (a b c : Option (List ℕ)) (held keeps left done rest all : List ℕ) → Hands a held b keeps done → all ≡ done ++
    rest → Hands b keeps c left [] → OnErr r ((part : List ℕ) × (rest : List ℕ) × (all ≡ part ++ rest) × Hands a held c left part)
part_told (Ok x) a b c held keeps left done rest all before is none = tt
part_told (Err e) a b c held keeps left done rest all before is none = (
  done,
  rest,
  is,
  subst (λ o. Hands a held c left o) (append-nil done) (Hands_trans a b c held keeps left done [] before none),
)

-- a line was handed over after this beginning
line_told : (a b c : Option (List ℕ)) (held keeps left done text line : List ℕ) → Hands a held b keeps done → line ≡ text ++ 10 ∷ [] →
    Hands b keeps c left (text ++ 10 ∷ []) → Hands a held c left (done ++ line)
line_told a b c held keeps left done text line before is now = Hands_trans a b c held keeps left done line before
    (subst (λ o. Hands b keeps c left o) (sym is) now)

pub returns-in_err-put_line-clause-err : goal.returns-in_err-put_line-clause-err
returns-in_err-put_line-clause-err g c =
    let told = c.loop-line.invariant.told in
    part_told c.from_residual.result _ _ _ _ _ _ told.0 (lines_text (drop c.loop-line.line-index c.args.lines.now)) _ told.1 told.2
    c.in_err-put_line.ensures.err

pub loop-line-preserved : goal.loop-line-preserved
loop-line-preserved g c =
    let told = c.loop-line.invariant.told in
    let i = c.loop-line.line-index in
    let item : Line = c.line-item.result in
    let rest : List ℕ = lines_text (drop (i + 1) c.args.lines.now) in
    let item_is : get_or c.args.lines.now i item ≡ item = search rules in
    let text_is : line_text item ≡ c.octets.result.now ++ 10 ∷ [] = search rules in
    let here : lines_text (drop i c.args.lines.now) ≡ line_text item ++ rest = ap (λ ls. lines_text ls) (drop_more c.args.lines.now i item (search rules)) ∙
    ap (λ l. line_text l ++ rest) item_is in
    record {
      told = (
        told.0 ++ line_text item,
        line_told _ _ _ _ _ _ told.0 c.octets.result.now (line_text item) told.1 text_is c.in_ok-put_line.ensures.ok,
        told.2 ∙ ap (λ z. told.0 ++ z) here ∙ sym (append_assoc told.0 (line_text item) rest),
      );
      still = c.in_ok-put_line.ensures.still (λ e. cc) ∙ c.loop-line.invariant.still;
    }
