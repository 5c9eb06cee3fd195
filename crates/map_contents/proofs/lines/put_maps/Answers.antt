use Rattle.std.proofs.Common.{◌∙◌, ◌++◌, ℕ, List, ap, refl, string_bytes}
use Rattle.map_contents.specs.ContentsText.{map_lines}
use Rattle.map_contents.proofs.Texts.{one_more_map}
use Rattle.map_contents.proofs.lines.put_maps.Goals as goal

pub maps-preserved : goal.maps-preserved
maps-preserved c =
    let i = c.maps.invariant in
    record {
      end_is = i.end_is;
      lines = one_more_map c.args.form c.args.told.now c.args.journals.now c.args.shards.now c.maps.map _ _ _ i.lines
          (record { entries = c.in_ok-entries.entries.items; contents = c.in_ok-entries.ensures; lines_are = refl })
          (c.in_ok-put_map.ensures
          ∙ ap (λ (them : List (List ℕ × List ℕ)). string_bytes c.maps.text ++ map_lines c.args.form c.args.told.now c.maps.map them)
          c.deref.ensures.value);
    }
