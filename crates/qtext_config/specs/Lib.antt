-- In reading order: why a text is no configuration; its fields, sizes, principals, keys, shares and
-- clients; the setting that it writes.
pub mod ConfigFaults
pub mod ConfigFields
pub mod ConfigSize
pub mod ConfigPrincipals
pub mod ConfigKeys
pub mod ConfigShares
pub mod ConfigClients
pub mod Configs
