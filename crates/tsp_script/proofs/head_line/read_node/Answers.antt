use Rattle.std.proofs.Common.{◌≡◌, ◌∙◌, ◌++◌, ◌∷◌, ◌≤◌, ap, arith, refl, rules, ℤ, nat_abs}
use mir.Val.{to_z, of_z}
use Rattle.std.{proofs.lemmas.Int.to_z-of_z, specs.Fmt.signed_decimal, specs.Int.w32, specs.Int.w64, specs.Int.RustNames.FitsSigned}
use Rattle.tsp_script.proofs.{HeadLines.no_space_host, HeadLines.fits_wall, Outcomes.none_not_some, Outcomes.if_none, Cuts.cut_front}
use Rattle.tsp_script.specs.Schedules.{flag_text, IsHost}
use Rattle.tsp_script.proofs.head_line.read_node.Goals as goal

pub returns-in_err-word-clause-none : goal.returns-in_err-word-clause-none
returns-in_err-word-clause-none c = if_none c.from_residual.result (λ n h e. c.in_err-word.ensures.none n.name (signed_decimal n.rate ++ 32 ∷
    (signed_decimal n.wall ++ 32 ∷ flag_text n.may)) e)

pub returns-in_err-name-clause-none : goal.returns-in_err-name-clause-none
returns-in_err-name-clause-none c = if_none c.from_residual-in_err-name.result (λ n h e.
    let f = cut_front c.args.line.now n.name (signed_decimal n.rate ++ 32 ∷ (signed_decimal n.wall ++ 32 ∷ flag_text n.may)) (no_space_host n.name h.host) e in
    let word : c.in_ok-word.word.now ≡ n.name = c.in_ok-word.ensures.found.0 ∙ f.0 in
    let host : IsHost c.in_ok-word.word.now = rw word h.host in
    none_not_some _ (c.in_err-name.ensures.reads host))

pub returns-in_err-rate-clause-none : goal.returns-in_err-rate-clause-none
returns-in_err-rate-clause-none c = if_none c.from_residual-in_err-rate.result (λ n h e.
    let f = cut_front c.args.line.now n.name (signed_decimal n.rate ++ 32 ∷ (signed_decimal n.wall ++ 32 ∷ flag_text n.may)) (no_space_host n.name h.host) e in
    let word : c.in_ok-word.word.now ≡ n.name = c.in_ok-word.ensures.found.0 ∙ f.0 in
    let host : IsHost c.in_ok-word.word.now = rw word h.host in
    c.in_err-rate.ensures.reads n.rate (signed_decimal n.wall ++ 32 ∷ flag_text n.may) (fits_wall n.rate (omega (arith, h.rate)))
    (c.in_ok-word.ensures.found.1 ∙ f.1))

pub returns-in_err-rate-2-clause-none : goal.returns-in_err-rate-2-clause-none
returns-in_err-rate-2-clause-none c = if_none c.from_residual-in_err-rate-2.result (λ n h e.
    let f = cut_front c.args.line.now n.name (signed_decimal n.rate ++ 32 ∷ (signed_decimal n.wall ++ 32 ∷ flag_text n.may)) (no_space_host n.name h.host) e in
    let word : c.in_ok-word.word.now ≡ n.name = c.in_ok-word.ensures.found.0 ∙ f.0 in
    let host : IsHost c.in_ok-word.word.now = rw word h.host in
    let r = c.in_ok-rate.ensures.reads n.rate (signed_decimal n.wall ++ 32 ∷ flag_text n.may) (fits_wall n.rate (omega (arith, h.rate)))
    (c.in_ok-word.ensures.found.1 ∙ f.1) in
    let back : to_z w64 (of_z w64 c.in_ok-rate.rate) ≡ n.rate = ap (λ (z : ℤ). to_z w64 (of_z w64 z)) r.0 ∙
    to_z-of_z w64 n.rate (fits_wall n.rate (omega (arith, h.rate))) in
    let small : nat_abs (to_z w64 (of_z w64 c.in_ok-rate.rate)) ≤ 1000 = rw back h.rate in
    none_not_some _ (c.in_err-rate-2.ensures.reads small))

pub returns-in_err-wall-clause-none : goal.returns-in_err-wall-clause-none
returns-in_err-wall-clause-none c = if_none c.from_residual-in_err-wall.result (λ n h e.
    let f = cut_front c.args.line.now n.name (signed_decimal n.rate ++ 32 ∷ (signed_decimal n.wall ++ 32 ∷ flag_text n.may)) (no_space_host n.name h.host) e in
    let word : c.in_ok-word.word.now ≡ n.name = c.in_ok-word.ensures.found.0 ∙ f.0 in
    let host : IsHost c.in_ok-word.word.now = rw word h.host in
    let r = c.in_ok-rate.ensures.reads n.rate (signed_decimal n.wall ++ 32 ∷ flag_text n.may) (fits_wall n.rate (omega (arith, h.rate)))
    (c.in_ok-word.ensures.found.1 ∙ f.1) in
    let back : to_z w64 (of_z w64 c.in_ok-rate.rate) ≡ n.rate = ap (λ (z : ℤ). to_z w64 (of_z w64 z)) r.0 ∙
    to_z-of_z w64 n.rate (fits_wall n.rate (omega (arith, h.rate))) in
    let small : nat_abs (to_z w64 (of_z w64 c.in_ok-rate.rate)) ≤ 1000 = rw back h.rate in
    c.in_err-wall.ensures.reads n.wall (flag_text n.may) (fits_wall n.wall h.wall) r.1)

pub returns-then-unsigned_abs-gt-SCHEDULE_END-clause-none : goal.returns-then-unsigned_abs-gt-SCHEDULE_END-clause-none
returns-then-unsigned_abs-gt-SCHEDULE_END-clause-none c = λ n h e.
    let f = cut_front c.args.line.now n.name (signed_decimal n.rate ++ 32 ∷ (signed_decimal n.wall ++ 32 ∷ flag_text n.may)) (no_space_host n.name h.host) e in
    let word : c.in_ok-word.word.now ≡ n.name = c.in_ok-word.ensures.found.0 ∙ f.0 in
    let host : IsHost c.in_ok-word.word.now = rw word h.host in
    let r = c.in_ok-rate.ensures.reads n.rate (signed_decimal n.wall ++ 32 ∷ flag_text n.may) (fits_wall n.rate (omega (arith, h.rate)))
    (c.in_ok-word.ensures.found.1 ∙ f.1) in
    let back : to_z w64 (of_z w64 c.in_ok-rate.rate) ≡ n.rate = ap (λ (z : ℤ). to_z w64 (of_z w64 z)) r.0 ∙
    to_z-of_z w64 n.rate (fits_wall n.rate (omega (arith, h.rate))) in
    let small : nat_abs (to_z w64 (of_z w64 c.in_ok-rate.rate)) ≤ 1000 = rw back h.rate in
    let w = c.in_ok-wall.ensures.reads n.wall (flag_text n.may) (fits_wall n.wall h.wall) r.1 in
    let v = c.unsigned_abs.ensures.value ∙ (ap (λ (z : ℤ). nat_abs (to_z w64 (of_z w64 z))) w.0 ∙ ap nat_abs (to_z-of_z w64 n.wall (fits_wall n.wall h.wall)))
    in
    omega (arith, v, h.wall)

pub returns-in_err-may-clause-none : goal.returns-in_err-may-clause-none
returns-in_err-may-clause-none c = if_none c.from_residual-in_err-may.result (λ n h e.
    let f = cut_front c.args.line.now n.name (signed_decimal n.rate ++ 32 ∷ (signed_decimal n.wall ++ 32 ∷ flag_text n.may)) (no_space_host n.name h.host) e in
    let word : c.in_ok-word.word.now ≡ n.name = c.in_ok-word.ensures.found.0 ∙ f.0 in
    let host : IsHost c.in_ok-word.word.now = rw word h.host in
    let r = c.in_ok-rate.ensures.reads n.rate (signed_decimal n.wall ++ 32 ∷ flag_text n.may) (fits_wall n.rate (omega (arith, h.rate)))
    (c.in_ok-word.ensures.found.1 ∙ f.1) in
    let back : to_z w64 (of_z w64 c.in_ok-rate.rate) ≡ n.rate = ap (λ (z : ℤ). to_z w64 (of_z w64 z)) r.0 ∙
    to_z-of_z w64 n.rate (fits_wall n.rate (omega (arith, h.rate))) in
    let small : nat_abs (to_z w64 (of_z w64 c.in_ok-rate.rate)) ≤ 1000 = rw back h.rate in
    let w = c.in_ok-wall.ensures.reads n.wall (flag_text n.may) (fits_wall n.wall h.wall) r.1 in
    none_not_some _ (c.in_err-may.ensures.reads flag_text refl refl n.may w.1))

pub returns-clause-found : goal.returns-clause-found
returns-clause-found c =
    let rate : FitsSigned w64 c.in_ok-rate.rate = search rules in
    let wall : FitsSigned w64 c.in_ok-wall.wall = search rules in
    let small : FitsSigned w32 c.in_ok-rate-2.rate = search rules in (
      record {
        host = c.in_ok-name.ensures.range;
        rate = rw (to_z-of_z w32 c.in_ok-rate-2.rate small) c.in_ok-rate-2.ensures.range;
        wall = omega (arith, c.unsigned_abs.ensures.value);
      },
      c.in_ok-word.ensures.found.2 ∙ rw (
        c.in_ok-name.ensures.same,
        c.in_ok-rate.ensures.found,
        to_z-of_z w32 c.in_ok-rate-2.rate small,
        c.in_ok-rate-2.ensures.same,
        to_z-of_z w64 c.in_ok-rate.rate rate,
        c.in_ok-wall.ensures.found,
        to_z-of_z w64 c.in_ok-wall.wall wall,
        c.in_ok-may.ensures.found flag_text refl refl,
      ) refl,
    )
