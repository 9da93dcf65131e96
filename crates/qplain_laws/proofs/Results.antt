-- The plain results of all calls fit together.
use Rattle.std.proofs.Common.{◌≡◌, ℕ, ◌&&◌, Bool, true, false, nat_lt, cond, List, None, slice_index_or, refl, ap, subst, sym, ◌∙◌}
use Rattle.std.specs.Ordering.{nat_cmp}
use Rattle.qrules.specs.declared.limits.Limits.{Limits}
use Rattle.qrules.specs.declared.graces.Graces.{Graces}
use Rattle.qplain.specs.Caller.{Caller}
use Rattle.qplain.specs.declared.bounds.TheConstants.{MAX_LINKS}
use Rattle.qplain.specs.State.{Holder, Inode, State, is_directory, named}
use Rattle.qplain.specs.Use.{has_too_many_links, links_of}
use Rattle.qplain.specs.Known.{is_holder, is_known}
use Rattle.qplain.specs.Names.{created}
use Rattle.qplain.specs.Quotas.{relimited}
use Rattle.qplain_laws.specs.Laws.{AreKnown, FitsTogether, IsSound}
use Rattle.qplain_laws.proofs.Becoming.{HoldsOfResults, IsOwn}
use Rattle.qplain_laws.proofs.Fitting.{changed_fits, created_fits, fits-map, known-project}
use Rattle.qplain_laws.proofs.Sound.{known-made}
use Rattle.qplain_laws.proofs.FewLinks.{few-links, none-too_many, too_many-same}
use Rattle.qplain_laws.proofs.Finding.{found-at}
use Rattle.qplain_laws.proofs.Linking.{links_of-created-others, links_of-new_file}
use Rattle.qplain_laws.proofs.Tables.{All-insert_new, absent-fresh}
use Rattle.qplain_laws.proofs.Naming.{linked_fits}
use Rattle.qplain_laws.proofs.Renaming.{renamed_fits}
use Rattle.qplain_laws.proofs.Sweeping.{removed_fits, unfilled}

-- new graces touch no part
pub fits-graced : (S : State) (graces : Graces) → FitsTogether S → FitsTogether (record S { graces = graces })
fits-graced S graces fits = record {
  links = too_many-same S S.holders graces ∙ fits.links;
  holders = fits.holders;
  inodes = record {
    in_order = fits.inodes.in_order;
    fresh = fits.inodes.fresh;
    owners_known = fits.inodes.owners_known;
    sound = fits.inodes.sound;
    root_stands = fits.inodes.root_stands;
  };
  names = record { in_order = fits.names.in_order; lead = fits.names.lead; counted = fits.names.counted };
}

-- new limits are those of a holder who stays who it is
relimited_keeps : (b : Bool) (limits : Limits) (h : Holder) → ((cond b (relimited limits h) h).kind ≡ h.kind) × ((cond b (relimited limits h) h).id ≡ h.id)
relimited_keeps true limits h = (refl, refl)
relimited_keeps false limits h = (refl, refl)

-- a new file gives no other inode a link, and has one
few-created : (S : State) (inode : Inode) (dir : ℕ) (name : List ℕ) → FitsTogether S → named S dir name ≡ None
    → (inode.dir && has_too_many_links (created S inode dir name)) ≡ false → has_too_many_links (created S inode dir name) ≡ false
few-created S inode dir name fits absent few = by inode.dir refl few
  where
    by : (b : Bool) → inode.dir ≡ b → (b && has_too_many_links (created S inode dir name)) ≡ false → has_too_many_links (created S inode dir name) ≡ false
    by true is_dir h = h
    by false is_file h =
        none-too_many (created S inode dir name)
        (All-insert_new (λ e. nat_lt MAX_LINKS (links_of (created S inode dir name) e.0 e.1.dir) ≡ false) nat_cmp S.inodes S.next inode
        (absent-fresh S.inodes S.next fits.inodes.fresh)
        (λ k d below.
        let e : ℕ × Inode = slice_index_or S.inodes k d in
        ap (nat_lt MAX_LINKS) (links_of-created-others S inode dir name fits absent e.0 e.1 e.1.dir (found-at S fits.inodes.in_order k d below) is_file)
        ∙ few-links S fits.links k d below)
        (ap (λ b. nat_lt MAX_LINKS (links_of (created S inode dir name) S.next b)) is_file
        ∙ ap (nat_lt MAX_LINKS) (links_of-new_file S inode dir name fits absent)))

-- what a caller who is known makes in a directory has known owners
known-created : (S : State) (cred : Caller) (inode : Inode) (dir : ℕ) → FitsTogether S → IsOwn S cred dir inode → is_known S cred ≡ true
    → is_directory S dir ≡ true → AreKnown S inode.owners
known-created S cred inode dir fits own known stands =
    subst (AreKnown S) (sym own.owners) (known-made S cred dir known (known-project S dir fits stands))

-- so its parts fit together then
pub fits-created : (S : State) (cred : Caller) (inode : Inode) (dir : ℕ) (name : List ℕ) → FitsTogether S → IsOwn S cred dir inode
    → is_known S cred ≡ true → IsSound inode → is_directory S dir ≡ true → named S dir name ≡ None
    → (inode.dir && has_too_many_links (created S inode dir name)) ≡ false → FitsTogether (created S inode dir name)
fits-created S cred inode dir name fits own known sound stands absent few =
    created_fits S inode dir name fits stands absent (known-created S cred inode dir fits own known stands) sound
    (few-created S inode dir name fits absent few)

-- every plain result fits together
pub results_fit : (S : State) (cred : Caller) → FitsTogether S → HoldsOfResults FitsTogether S cred
results_fit S cred fits = record {
  created = λ inode dir name own known sound stands absent few.
      fits-created S cred inode dir name fits own known sound stands absent few;
  changed = λ number inode after there follows may. changed_fits S number inode after there follows fits;
  removed = λ dir name number inode led there empty may.
      removed_fits S dir name number led fits (unfilled S fits number inode there empty);
  linked = λ number inode dir name there file stands absent few. linked_fits S number inode dir name fits there file stands absent few;
  renamed = λ to dir name number inode to_dir to_name placed outside led there stands other empty may may_too few.
      renamed_fits S dir name number inode to_dir to_name fits led there stands other empty few;
  limited = λ kind id limits may.
      fits-map S (λ h. cond (is_holder kind id h) (relimited limits h) h)
      (λ h. (relimited_keeps (is_holder kind id h) limits h).0, λ h. (relimited_keeps (is_holder kind id h) limits h).1) fits;
  graced = λ graces may. fits-graced S graces fits;
}
