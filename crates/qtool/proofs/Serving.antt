-- Which clients are served, and on which terms, from the pairs and the configuration that name them.
use Rattle.std.proofs.Common.{◌≡◌, ◌==◌, ◌<◌, ◌||◌, ◌∙◌, ℕ, List, [], ◌∷◌, length, map, Result, Ok, Err, refl, sym, ap, arith}
use Rattle.std.specs.List.{list_any}
use Rattle.std.proofs.lemmas.List.{length-map}
use Rattle.qplain.specs.Setups.{Setting}
use Rattle.qtext_config.specs.ConfigClients.{NamedClient, named_client}
use Rattle.qtext_config.specs.ConfigFaults.{Cause}
use Rattle.qtext_config.specs.Configs.{ReadsSetup, clients_in, setting_in}
use Rattle.qtext_config.specs.declared.config.Config.{Config}
use Rattle.qtext_config.specs.declared.config.client.ConfigClient.{ConfigClient}
use Rattle.qtext_config.proofs.ConfigKeyLaws.{list_any-map}
use Rattle.qtext_job.specs.declared.pair.Pair.{Pair}
use Rattle.qtext_job.specs.declared.share_options.ShareOptions.{ShareOptions}
use Rattle.qtool_files.specs.Held.{Held, IsUnder}
use Rattle.qtool.specs.Served.{client_of_pair, clients_served, is_taken, is_to_standard}
use Rattle.qtool.specs.Terms.{ClientTerms, terms_for, terms_told}
use Rattle.qtool.specs.Under.{IsConfigNaming}

-- a list seen by one view and then by another
map-map : {X Y Z : Type 0} (f : Y → Z) (g : X → Y) (xs : List X) → map f (map g xs) ≡ map (λ x. f (g x)) xs
map-map f g [] = refl
map-map {X} {Y} {Z} f g (x ∷ xs) = let also : List Z → List Z = λ zs. f (g x) ∷ zs in ap also (map-map f g xs)

-- standard output is one of these clients'
pub taken_of : (clients : List ConfigClient)
    → is_taken (map named_client clients) ≡ ((length clients == 0) || list_any (λ client. is_to_standard (named_client client)) clients)
taken_of clients = rw (length-map clients named_client, list_any-map is_to_standard named_client clients)

-- the terms of some clients
pub terms_of_all : (told : ShareOptions) (clients : List ConfigClient) → 0 < length clients
    → map (λ client. terms_for told (length clients) (named_client client)) clients ≡ terms_told told (map named_client clients)
terms_of_all told [] some = absurd (omega arith)
terms_of_all told (client ∷ clients) some =
    let all = map named_client (client ∷ clients) in
    let of_so_many : ℕ → List ClientTerms = λ n. map (terms_for told n) all in
    sym (map-map (terms_for told (length (client ∷ clients))) named_client (client ∷ clients))
    ∙ ap of_so_many (sym (length-map (client ∷ clients) named_client))

-- what was read of a text under a name is a configuration there, which names the clients that were read
pub config_names : (read : Config) (files : Held) (name text : List ℕ) (clients : List NamedClient) (given : Result Setting Cause)
    → IsUnder files name text → setting_in text ≡ given → ReadsSetup (λ config. config.setup) (Ok read) given
    → clients_in text ≡ Ok clients → IsConfigNaming files name read.setup clients
config_names read files name text clients (Ok g) under says is names = record {
  config_is = record { text = text; given = g; under = under; says = says; is = is };
  names = names;
}
config_names read files name text clients (Err cause) under says is names = absurd is

-- where some are named on the command line, these are the clients
pub served_pairs : (pairs : List Pair) (configured : List NamedClient) → 0 < length pairs
    → map client_of_pair pairs ≡ clients_served (map client_of_pair pairs) configured
served_pairs [] configured some = absurd (omega arith)
served_pairs (pair ∷ pairs) configured some = refl
