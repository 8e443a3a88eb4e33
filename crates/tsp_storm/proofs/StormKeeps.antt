-- The run of a storm's schedule keeps the promises outright.
use Rattle.std.proofs.Common.{sym, ap, ◌∙◌, subst, arith, inl, inr, drop, ◌≡◌, ℕ, zero, suc, ◌+◌, ◌<◌, ◌≤◌, ◌^◌, List, [], ◌∷◌, ◌++◌, length, decimal}
use Rattle.std.proofs.Common.{slice_index_or, All, refl}
use Rattle.std.proofs.lemmas.{Bool.cases_lt, Fmt.decimal_injective, List.get_or_append_left, List.get_or-append-add}
use Rattle.std.proofs.lemmas.List.Elements.{All-push, All-nil}
use Rattle.tsp_args.specs.{Storms.IsStorm, declared.storm.StormWords.StormWords}
use Rattle.tsp_rules.specs.Values.{NodeLine}
use Rattle.tsp_base.specs.Words.{IsHeader, KeepsDrift, IsName}
use Rattle.tsp_base.specs.declared.name.NameFault.TheVariants.{TooLong, HasNul}
use Rattle.tsp_run.specs.{Premised.NamesDiffer, Ranges.Accepted, Setup.nobody}
use Rattle.tsp_run.proofs.{RunPremises.runs_keep_premises, RunPromises.runs_keep_promises_holds}
use Rattle.tsp_script.{proofs.NodeNames.node_name_fits, specs.Storms.StormValue, specs.Storms.storm_line}
use Rattle.tsp_storm.specs.Schedules.{after_lines, storm_events, generator_of, header_of, storm_lines, made}
use Rattle.tsp_storm.proofs.{Draws.next_moves, Heads.rate_near, Heads.wall_near, Mades.after_is, Mades.length_storm_lines, Mades.made_is}
use Rattle.tsp_storm.{proofs.Tame.Tame, proofs.Tame.tame_next, proofs.Tame.tame_none, specs.Kept.StormKept}

-- each beginning of a schedule is tame
tame_is : (s : StormWords) → IsStorm s → (n : ℕ) → Tame (header_of s) (storm_events s n) (made s n).generator
tame_is s is zero = tame_none (header_of s) (made s 0).generator
tame_is s is (suc n) =
    let i = made_is s is n in
    let v = (made s n).generator in
    let nodes = i.nodes in
    let lines = length_storm_lines s.nodes (generator_of s) in
    let few = is.nodes in
    tame_next (header_of s) (storm_events s n) v (omega (arith, nodes, lines, few)) i.count (tame_is s is n)
    (next_moves (header_of s) (storm_events s n) v i.some)

-- the name of the node with this number
abbrev named : ℕ → List ℕ
named k = 110 ∷ decimal k

named_is : (k : ℕ) → k < 2 ^ 64 → IsName (named k)
named_is k small =
    let short : length (named k) ≤ 255 = elim (cases_lt 255 (length (named k))) [
      | inl long ↦
          absurd (node_name_fits k (named k) TooLong refl small long)
      | inr le ↦ le
    ] in
    record { short = short; no_nul = λ nul. node_name_fits k (named k) HasNul refl small (short, nul) }

-- the line of a node has its number as a name
line_name : (k : ℕ) (v : StormValue) → v.named ≡ 0 → (storm_line (after_lines k v)).name ≡ named k
line_name k v none = ap named (let a = (after_is k v).named in omega (arith, a, none))

lines_keep : (n : ℕ) (v : StormValue) → v.named ≡ 0 → n ≤ 64 → All (KeepsDrift 100) (storm_lines n v)
lines_keep zero v none few = All-nil (KeepsDrift 100)
lines_keep (suc n) v none few =
    let u = after_lines n v in
    All-push (KeepsDrift 100) (storm_lines n v) (storm_line u) (lines_keep n v none (omega (arith, few)))
    (record {
      name = subst (λ x. IsName x) (sym (line_name n v none)) (named_is n (omega (arith, few)));
      rate = rate_near u;
      wall = (let near = wall_near u in omega (arith, near));
    })

-- and stands in its place
line_at : (n k : ℕ) (v : StormValue) → k < n → slice_index_or (storm_lines n v) k nobody ≡ storm_line (after_lines k v)
line_at zero k v lt = absurd (omega (arith, lt))
line_at (suc n) k v lt = elim (cases_lt k n) [
  | inl less ↦ get_or_append_left (storm_lines n v) (storm_line (after_lines n v) ∷ []) nobody k (let len = length_storm_lines n v in
      omega (arith, less, len)) ∙ line_at n k v less
  | inr last ↦ (
      let same : n ≡ k = omega (arith, lt, last) in
      let here : length (storm_lines n v) + 0 ≡ k = (let len = length_storm_lines n v in omega (arith, len, same)) in
      ap (λ i. slice_index_or (storm_lines n v ++ storm_line (after_lines n v) ∷ []) i nobody) (sym here)
      ∙ get_or-append-add (storm_lines n v) (storm_line (after_lines n v) ∷ []) 0 nobody
      ∙ ap (λ i. storm_line (after_lines i v)) same)
]

module _ (s : StormWords) (is : IsStorm s) where
  header_is : IsHeader (header_of s)
  header_is = record {
    small = omega arith;
    few = (let len = length_storm_lines s.nodes (generator_of s) in let few = is.nodes in omega (arith, len, few));
    kept = lines_keep s.nodes (generator_of s) refl is.nodes;
    few_nets = omega arith;
    nets_are = λ k d lt. absurd (omega (arith, lt));
    few_ports = λ n. omega arith;
  }

  names_differ : NamesDiffer (header_of s)
  names_differ m n lt less same =
      let len = length_storm_lines s.nodes (generator_of s) in
      let few = is.nodes in
      let one : named m ≡ named n =
      sym (ap (λ (l : NodeLine). l.name) (line_at s.nodes m (generator_of s) (omega (arith, lt, len))) ∙ line_name m (generator_of s) refl)
      ∙ same ∙ (ap (λ (l : NodeLine). l.name) (line_at s.nodes n (generator_of s) (omega (arith, less, len))) ∙ line_name n (generator_of s) refl) in
      decimal_injective m n (omega (arith, lt, len, few)) (omega (arith, less, len, few)) (ap (λ l. drop 1 l) one)

  pub storm_kept : StormKept s
  storm_kept n valid =
      let header = header_of s in
      let events = storm_events s n in
      let t = tame_is s is n in
      let accepted : Accepted header events = record { header_is = header_is; ranges = t.ranges; valid = valid } in
      let kept = runs_keep_premises header events accepted in
      record {
        honest = kept.honest t.sealed;
        life = kept.life t.prompt;
        words = kept.words t.apart;
        names = λ setting set. kept.names setting set names_differ;
        few = kept.few;
        promises = λ setting set. runs_keep_promises_holds header setting events set accepted;
      }
