use Rattle.std.proofs.Common.{◌≡◌, ◌∙◌, ◌<◌, ℕ, List, [], length, refl, sym, ap, subst, arith}
use Rattle.std.specs.Prelude.{slice_index_or}
use Rattle.semantics.specs.declared.call.Entry.{Entry}
use Rattle.semantics.specs.History.{IsLegalJournal}
use Rattle.semantics.proofs.shared.EachLemmas.{found_or}
use Rattle.journals.specs.JournalsView.{JournalsView, entries_at}
use Rattle.map_contents.specs.Remade.{IsMadeAgain}
use Rattle.map_contents.proofs.Remaking.{none_made, one_more_made, may_be_made, all_made, made_count}
use Rattle.map_contents.proofs.making.make_all.Goals as goal

-- a list that an index gives is the journal of its number
list_is : (journals : JournalsView) (lists : List (List Entry)) (number : ℕ) (list : List Entry) → lists ≡ journals.shards → number < length lists
    → list ≡ slice_index_or lists number list → list ≡ entries_at journals number
list_is journals lists number list same below is =
    found_or lists number list [] below is ∙ ap (λ (all : List (List Entry)). slice_index_or all number []) same

pub shards-init : goal.shards-init
shards-init c = record {
  end_is = refl;
  count = refl;
  so_far = none_made c.args.journals.now c.args.shards.now c.requires.opened;
}

pub make_again-requires-clause-may : goal.make_again-requires-clause-may
make_again-requires-clause-may c = λ shard there.
    let i = c.shards.invariant in
    let list = list_is c.args.journals.now c.args.lists.now c.shards.number c.index-lists-number.result c.requires.lists
    (let e = i.end_is in let t = c.shards-test.true in omega (arith, e, t)) c.index-lists-number.is in
    let may = may_be_made c.args.journals.now c.shards.number c.shards.shards i.so_far c.requires.legal
    (i.count ∙ c.requires.count ∙ ap (λ (lists : List (List Entry)). length lists) c.requires.lists) shard there in
    (may.0, subst (λ (entries : List Entry). IsLegalJournal shard.plan entries) (sym list) may.1)

pub shards-preserved : goal.shards-preserved
shards-preserved c =
    let i = c.shards.invariant in
    let list = list_is c.args.journals.now c.args.lists.now c.shards.number c.index-lists-number.result c.requires.lists
    (let e = i.end_is in let t = c.shards-test.true in omega (arith, e, t)) c.index-lists-number.is in
    let made = subst (λ (entries : List Entry). IsMadeAgain c.shards.shards c.shards.number entries c.make_again.new.shards) list
    c.make_again.ensures in
    record {
      end_is = i.end_is;
      count = made_count c.shards.shards c.shards.number _ c.make_again.new.shards made ∙ i.count;
      so_far = one_more_made c.args.journals.now c.shards.number c.shards.shards i.so_far c.make_again.new.shards made;
    }

pub returns : goal.returns
returns c =
    let i = c.shards.invariant in
    all_made c.args.journals.now c.shards.number c.shards.shards i.so_far
    (let e = i.end_is in let n = i.count in let k = c.requires.count in let t = c.shards-test.false in omega (arith, e, n, k, t))
