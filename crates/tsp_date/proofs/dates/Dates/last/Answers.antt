-- The date at the peer's place is its last one.
use Rattle.std.proofs.Common.{◌≡◌, sym, ◌∙◌, ap, Some, None, get_or, ◌==◌, position}
use Rattle.tsp_date.specs.{Dates.DatesValue, Dates.dating_in, declared.dates.Dated.Dated}
use Rattle.tsp_date.proofs.DatesLemmas.{found, last_at, last_none}
use Rattle.tsp_date.proofs.dates.Dates.last.Goals as goal

pub returns-in-None : goal.returns-in-None
returns-in-None c =
    let p : position (λ (d : Dated). d.peer.0 == c.args.peer.0) c.as_slice.result.now ≡ None = sym c.in-None.ensures in
    sym (last_none c.args.self.now.dated c.args.peer (rw (c.as_slice.ensures.value, ap (λ (v : DatesValue). v.dated) c.self.view_is) at p))

pub returns-in-Some : goal.returns-in-Some
returns-in-Some c =
    let ds = c.args.self.now.dated in
    let p : position (λ (d : Dated). d.peer.0 == c.args.peer.0) c.as_slice.result.now ≡ Some c.in-Some.place = sym c.in-Some.ensures in
    let f = found c.args.peer ds c.in-Some.place (rw (c.as_slice.ensures.value, ap (λ (v : DatesValue). v.dated) c.self.view_is) at p) in
    let is : c.index.result.now ≡ get_or ds c.in-Some.place c.index.result.now = rw (ap (λ (v : DatesValue). v.dated) c.self.view_is) at c.index.ensures in
    ap (λ (d : Dated). dating_in d.last) (is ∙ ap (λ i. get_or ds i c.index.result.now) (sym f.1)) ∙ sym (last_at ds c.args.peer c.index.result.now f.0)
