use Rattle.std.proofs.Common.{◌<◌, length, sym, subst}
use Rattle.hp_lookup.proofs.Words.{Files, file_at, map_among}
use Rattle.hp_lookup.proofs.Views.{map_seen}
use Rattle.hp_mount_files.specs.Lent.{IsMapLent}
use Rattle.hp_mount_files.proofs.files.Files.map.Goals as goal

pub returns : goal.returns
returns g c =
    let s = c.self.inside in
    let k = c.args.at.file in
    let j = c.args.at.map in
    let y = c.map.result.now in
    subst (λ (v : Files). IsMapLent (map_among v.files k j) y) c.self.view_is (record {
      store = s.pages.store;
      is = map_seen s.pages.store s.list.files k j (subst (λ (v : Files). k < length v.files) (sym c.self.view_is) c.requires.file) c.index.result.now c.index.ensures
          y c.map.ensures (subst (λ (v : Files). j < length (file_at v.files k).maps) (sym c.self.view_is) c.requires.map);
    })
